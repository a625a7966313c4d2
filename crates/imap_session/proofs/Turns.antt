-- A turn of a session that idles.
use Rattle.std.proofs.Common.{◌≡◌, ℕ, List, [], ◌∷◌, ◌++◌, length, true, false, Option, Some, None, refl, ap, sym, ◌∙◌, subst, append-nil, arith}
use Rattle.change_ring.specs.declared.change.Change.{Change}
use Rattle.cursor_set.specs.Lines.{lines}
use Rattle.mailbox.specs.declared.clients.MailFault.TheVariants.{Stranger, Lapped}
use Rattle.imap_session.specs.declared.standing.After.TheVariants.{Idle, Bye}
use Rattle.imap_session.specs.declared.standing.Selected.{Selected}
use Rattle.imap_session.specs.Exchange.{Answer, Call, Fed, Feed, Refused, Standing, is_idling, nothing_more, refusal_text}
use Rattle.imap_session.specs.Commands.{idle_turn, idle_turn_in, most_changes}
use Rattle.imap_session.specs.Store.{IdleTurns}

-- it doesn't idle
pub turns_awake : {S : Type 0} (step : S → Call → Answer → S → Type 0) (now : Standing) (s : S) (text : List ℕ) → is_idling now ≡ false → IdleTurns step now s s text text 0 now
turns_awake step now s text awake = record {
  answers = [];
  events = [];
  bytes = [];
  how = Idle;
  played = ap (λ b. idle_turn_in now.selected b now []) awake ∙ nothing now.selected;
  met = refl;
  wrote = sym (append-nil text);
  shown = refl;
}
  where
    nothing : (selected : Option Selected) → idle_turn_in selected false now [] ≡ Some (nothing_more Idle now)
    nothing None = refl
    nothing (Some selected) = refl

-- it has selected no mailbox
pub turns_unselected : {S : Type 0} (step : S → Call → Answer → S → Type 0) (now : Standing) (s : S) (text : List ℕ) → now.selected ≡ None → IdleTurns step now s s text text 0 now
turns_unselected step now s text none = record {
  answers = [];
  events = [];
  bytes = [];
  how = Idle;
  played = ap (λ x. idle_turn_in x (is_idling now) now []) none;
  met = refl;
  wrote = sym (append-nil text);
  shown = refl;
}

turn_selected : (now : Standing) (selected : Selected) (answers : List Answer) → now.selected ≡ Some selected → is_idling now ≡ true → idle_turn now answers ≡ idle_turn_in (Some selected) true now answers
turn_selected now selected answers there idles = ap (λ x. idle_turn_in x (is_idling now) now answers) there ∙ ap (λ b. idle_turn_in (Some selected) b now answers) idles

-- it showed changes
pub turns_shown : {S : Type 0} (step : S → Call → Answer → S → Type 0) (now : Standing) (selected : Selected) (old new : S) (view : List ℕ) (changes : List Change) (count : ℕ) (before after : List ℕ) → now.selected ≡ Some selected
    → is_idling now ≡ true → step old (Feed most_changes) (Fed view changes) new → length changes ≡ count → after ≡ before ++ lines view changes → IdleTurns step now old new before after count now
turns_shown step now selected old new view changes count before after there idles h n e = record {
  answers = Fed view changes ∷ [];
  events = record { call = Feed most_changes; answer = Fed view changes } ∷ [];
  bytes = lines view changes ++ [];
  how = Idle;
  played = turn_selected now selected (Fed view changes ∷ []) there idles;
  met = (new, h, refl);
  wrote = e ∙ ap (λ t. before ++ t) (sym (append-nil (lines view changes)));
  shown = omega (arith, n);
}

-- it missed changes
pub turns_lapped : {S : Type 0} (step : S → Call → Answer → S → Type 0) (now next : Standing) (selected : Selected) (old new : S) (before after : List ℕ) → now.selected ≡ Some selected → is_idling now ≡ true
    → step old (Feed most_changes) (Refused Lapped) new → after ≡ before ++ refusal_text [] Lapped → next ≡ record now { ended = true } → IdleTurns step now old new before after 0 next
turns_lapped step now next selected old new before after there idles h e is = subst (λ (n : Standing). IdleTurns step now old new before after 0 n) (sym is) (record {
  answers = Refused Lapped ∷ [];
  events = record { call = Feed most_changes; answer = Refused Lapped } ∷ [];
  bytes = refusal_text [] Lapped ++ [];
  how = Bye;
  played = turn_selected now selected (Refused Lapped ∷ []) there idles;
  met = (new, h, refl);
  wrote = e ∙ ap (λ t. before ++ t) (sym (append-nil (refusal_text [] Lapped)));
  shown = refl;
})

-- the store doesn't know it
pub turns_unknown : {S : Type 0} (step : S → Call → Answer → S → Type 0) (now next : Standing) (selected : Selected) (old new : S) (before after : List ℕ) → now.selected ≡ Some selected → is_idling now ≡ true
    → step old (Feed most_changes) (Refused Stranger) new → after ≡ before ++ refusal_text [] Stranger → next ≡ record now { ended = true } → IdleTurns step now old new before after 0 next
turns_unknown step now next selected old new before after there idles h e is = subst (λ (n : Standing). IdleTurns step now old new before after 0 n) (sym is) (record {
  answers = Refused Stranger ∷ [];
  events = record { call = Feed most_changes; answer = Refused Stranger } ∷ [];
  bytes = refusal_text [] Stranger ++ [];
  how = Bye;
  played = turn_selected now selected (Refused Stranger ∷ []) there idles;
  met = (new, h, refl);
  wrote = e ∙ ap (λ t. before ++ t) (sym (append-nil (refusal_text [] Stranger)));
  shown = refl;
})
