-- Sets of messages, found in the view.
use Rattle.std.proofs.Common.{◌≡◌, ◌∙◌, ℕ, zero, suc, ◌<◌, Bool, List, [], ◌∷◌, length, map, get_or, Option, Some, None, Result, refl, ap, subst, arith}
use Rattle.std.specs.Prelude.{option_map}
use Rattle.std.proofs.lemmas.List.{length-map}
use Rattle.imap_grammar.specs.Sets.{named_at, named_in}
use Rattle.imap_grammar.specs.declared.set.SeqRange.{SeqRange}
use Rattle.imap_grammar.specs.declared.view.Named.{Named}
use Rattle.imap_session.specs.Exchange as ex
use Rattle.imap_session.specs.Exchange.{Call, Answer, Looked, Exchange, Standing}
use Rattle.imap_session.specs.Commands.{on_set, on_chosen, says}
use Rattle.imap_session.specs.Response.{Response}
use Rattle.mailbox.specs.declared.clients.MailFault.{MailFault}
use Rattle.imap_session.specs.inner.Store.{Does, Reaches}
use Rattle.imap_session.proofs.Saying.{does_then}
use Rattle.imap_session.proofs.Runs.{reaches_look}
use Rattle.imap_session.specs.declared.texts.ResponseText.TheVariants as texts
use Rattle.imap_session.specs.Texts.{response_text}

pub reaches_chosen : {S : Type 0} (step : S → Call → Answer → S → Type 0) (by_uid : Bool) (set : List SeqRange) (next : List ℕ → List ℕ → Exchange) (view uids : List ℕ) (s : S) (text : Response)
    → step s (ex.Look by_uid set) (Looked view) s → named_in by_uid set view ≡ Some uids
    → (tag : List ℕ) (now : Standing) → Reaches step tag now now (on_set by_uid set next) (next view uids) s s text text
reaches_chosen step by_uid set next view uids s text v h tag now =
    let P : Option (List ℕ) → Type 0 = λ o. Reaches step tag now now (on_set by_uid set next) (on_chosen o (next view)) s s text text in
    subst P h (reaches_look step tag now by_uid set (λ w. on_chosen (named_in by_uid set w) (next w)) view s text v)

-- ---- what a choice answers

same_messages : {x y : List Named} → Some x ≡ Some y → x ≡ y
same_messages e = cc

pub chosen_some : (view : List ℕ) (x : Option (List ℕ)) (messages : List Named) → Some messages ≡ option_map (map (named_at view)) x → (uids : List ℕ) × (x ≡ Some uids) × (messages ≡ map (named_at view) uids)
chosen_some view None messages e = cc
chosen_some view (Some uids) messages e = (uids, refl, same_messages e)

chosen_none : (view : List ℕ) (x : Option (List ℕ)) → None ≡ option_map (map (named_at view)) x → x ≡ None
chosen_none view None e = refl
chosen_none view (Some uids) e = cc

pub reaches_too_high : {S : Type 0} (step : S → Call → Answer → S → Type 0) (by_uid : Bool) (set : List SeqRange) (next : List ℕ → List ℕ → Exchange) (view : List ℕ) (s : S) (text : Response)
    → step s (ex.Look by_uid set) (Looked view) s → None ≡ option_map (map (named_at view)) (named_in by_uid set view)
    → (tag : List ℕ) (now : Standing) → Reaches step tag now now (on_set by_uid set next) (says (response_text texts.SequenceTooHigh)) s s text text
reaches_too_high step by_uid set next view s text looked none tag now =
    let P : Option (List ℕ) → Type 0 = λ o. Reaches step tag now now (on_set by_uid set next) (on_chosen o (next view)) s s text text in
    subst P (chosen_none view (named_in by_uid set view) none) (reaches_look step tag now by_uid set (λ w. on_chosen (named_in by_uid set w) (next w)) view s text looked)

-- messages at their positions, by number
pub message_there : (view uids : List ℕ) (i : ℕ) (d : Named) → i < length (map (named_at view) uids) → get_or (map (named_at view) uids) i d ≡ named_at view (get_or uids i 0)
message_there view [] i d h = absurd (omega arith)
message_there view (uid ∷ uids) zero d h = refl
message_there view (uid ∷ uids) (suc i) d h = message_there view uids i d (omega arith)

pub message_at : (view uids : List ℕ) (messages : List Named) (i : ℕ) (d : Named) → messages ≡ map (named_at view) uids → i < length messages → get_or messages i d ≡ named_at view (get_or uids i 0)
message_at view uids messages i d e h = rw e (message_there view uids i d (subst (λ (ms : List Named). i < length ms) e h))

pub as_many : (view uids : List ℕ) (messages : List Named) → messages ≡ map (named_at view) uids → length messages ≡ length uids
as_many view uids messages e = ap (length {A = Named}) e ∙ length-map uids (named_at view)

-- of messages with these UIDs
pub uids_chosen : (view uids : List ℕ) → map (λ (m : Named). m.uid) (map (named_at view) uids) ≡ uids
uids_chosen view [] = refl
uids_chosen view (uid ∷ uids) = ap (λ (l : List ℕ). uid ∷ l) (uids_chosen view uids)

-- what is done with the messages that a set names, once they are found
pub does_chosen : {S V : Type 0} (step : S → Call → Answer → S → Type 0) (by_uid : Bool) (set : List SeqRange) (next : List ℕ → List ℕ → Exchange) (z : V → Exchange) (view : List ℕ) (messages : List Named) (old new : S) (before after : Response) (r : Result V MailFault)
    → step old (ex.Look by_uid set) (Looked view) old → Some messages ≡ option_map (map (named_at view)) (named_in by_uid set view)
    → ((uids : List ℕ) → messages ≡ map (named_at view) uids → Does step (next view uids) z old new before after r)
    → Does step (on_set by_uid set next) z old new before after r
does_chosen step by_uid set next z view messages old new before after r looked told p =
    let found = chosen_some view (named_in by_uid set view) messages told in
    does_then step (on_set by_uid set next) (next view found.0) z old old new before before after r
    (reaches_chosen step by_uid set next view found.0 old before looked found.1) (p found.0 found.2)
