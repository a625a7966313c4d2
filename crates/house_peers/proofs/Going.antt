-- What a visitor's connection took, and what was printed of it, as what the visitor does.
use Rattle.std.proofs.Common.{◌≡◌, ℕ, ◌<◌, ◌⊎◌, inl, inr, if◌then◌else◌, Bool, true, false, List, [], ◌++◌, flat_map, length, take, drop, refl, sym, ap, ◌∙◌, subst, append-nil, append_assoc, take-append-drop, Option, Some, None}
use Rattle.std.proofs.Math.Seq.{drop-length}
use Rattle.std.specs.Prelude.{◌&&◌, not, IfSome}
use Rattle.std.specs.Option.{is_some}
use Rattle.line_io.specs.Wire.{IsUncut}
use Rattle.imap_session.specs.declared.standing.After.{After}
use Rattle.imap_session.specs.declared.standing.After.TheVariants.{Bye}
use Rattle.imap_session.specs.Exchange.{Call, Answer, Sent, Standing, is_idling, may_send, waits_begun, waits_for, waits_idling, waits_sent}
use Rattle.imap_session.specs.Commands.{due_of}
use Rattle.imap_session.proofs.Turns.{turns_awake}
use Rattle.imap_session.specs.Store.{IdleTurns}
use Rattle.imap_session.specs.declared.connection.Progress.{Progress}
use Rattle.imap_session.specs.Dialogue as dialogue
use Rattle.imap_session.specs.Dialogue.{Dialogue, Hears, ImapConnection, Took, Turns, may_follow, spelled}
use Rattle.delivery_token.specs.declared.Verdict.{Verdict}
use Rattle.house_peers.specs.Visitor.{Visitor}
use Rattle.house_peers.specs.HouseSession.{HadTurn, Answered, AnsweredVerdict, HouseSession, StandsFor, Turned}

-- where all of it was taken, nothing waits
none_left : (waits : List ℕ) (used : ℕ) → used ≡ length waits → drop used waits ≡ []
none_left waits used e = ap (λ n. drop n waits) e ∙ drop-length waits

-- nothing that may be answered waits, where the connection says what may come next
all_answered : (next : Dialogue) (rest : List ℕ) (link : ImapConnection) (how : After) → dialogue.StandsFor link next → (may_follow how ≡ true → rest ≡ []) → how ≡ may_send link.session
    → may_follow (may_send next.standing) ≡ true → IsUncut (next.begun ++ rest) × (0 < due_of next.standing.mailing.begun → next.begun ++ rest ≡ [])
all_answered next rest link how s none sends free =
    let follows : may_follow how ≡ true = ap may_follow (sends ∙ ap may_send s.session) ∙ free in
    let is : next.begun ++ rest ≡ next.begun = ap (λ (t : List ℕ). next.begun ++ t) (none follows) ∙ append-nil next.begun in
    (subst (λ (t : List ℕ). IsUncut t) (sym is) s.uncut, λ due. is ∙ s.alone due)

if_some : {A : Type 0} (o : Option A) (x : A) (P : A → Type 0) → o ≡ Some x → IfSome o P → P x
if_some o x P e h = subst (λ y. IfSome y P) e h

pub answered : {S : Type 0} (step : S → Call → Answer → S → Type 0) (whole : Bool) (v : Visitor) (old new : S) (link new_link : ImapConnection) (came : List ℕ) (unsaid new_unsaid : List ℕ) (progress : Progress)
    → StandsFor (record { link = link; came = came; unsaid = unsaid }) v
    → ((d : Dialogue) → dialogue.StandsFor link d → Took step d came old new unsaid new_unsaid progress new_link)
    → IfSome progress.after (λ after. may_follow after ≡ true → progress.used ≡ length came)
    → IfSome progress.after (λ after. after ≡ may_send new_link.session)
    → whole ≡ is_some progress.after
    → Answered step whole v old new (record { link = new_link; came = drop progress.used came; unsaid = new_unsaid })
answered step whole v old new link new_link came unsaid new_unsaid progress s took all sends is =
    let t = took (record { standing = v.standing; begun = s.begun }) s.connection in
    let rest : List ℕ = drop progress.used came in
    let used : List ℕ = take progress.used came in
    record {
      after = record { standing = t.next.standing; waits = t.next.begun ++ drop progress.used came; unsaid = v.unsaid ++ t.said };
      said = t.said;
      answers = record {
        sent = t.answered.sent;
        how = t.how;
        waited = s.waits ∙ ap (λ (x : List ℕ). s.begun ++ x) (sym (take-append-drop progress.used came)) ∙ sym (append_assoc s.begun used rest) ∙ ap (λ (x : List ℕ). x ++ rest) t.answered.whole
            ∙ append_assoc (flat_map spelled t.answered.sent) t.next.begun rest;
        converses = t.answered.converses;
      };
      kept = refl;
      all = λ w. all_answered t.next (drop progress.used came) new_link t.how t.stands
          (λ goes. none_left came progress.used
          (if_some progress.after t.how (λ after. may_follow after ≡ true → progress.used ≡ length came) (some_how progress.after t.how t.is (sym is ∙ w)) all goes))
          (if_some progress.after t.how (λ after. after ≡ may_send new_link.session) (some_how progress.after t.how t.is (sym is ∙ w)) sends);
      stands = record { begun = t.next.begun; connection = t.stands; waits = refl; unsaid = t.wrote ∙ ap (λ (x : List ℕ). x ++ t.said) s.unsaid };
    }
  where
    some_how : (a : Option After) (how : After) → (a ≡ None) ⊎ (a ≡ Some how) → is_some a ≡ true → a ≡ Some how
    some_how a how (inl none) is = absurd (let e : is_some a ≡ false = ap is_some none in let f = is in cc)
    some_how a how (inr some) is = some

-- a session that has ended, or awaits a verdict, answers nothing
pub ended_rests : (x : Standing) → x.ended ≡ true → may_follow (may_send x) ≡ false
ended_rests x e = ap (λ (b : Bool). may_follow (if b then Bye else waits_for x)) e

sent_rests : (over : Bool) (sent : Option Sent) (other : After) → is_some sent ≡ true → may_follow (if over then Bye else waits_sent sent other) ≡ false
sent_rests true sent other e = refl
sent_rests false None other e = absurd (let f : false ≡ true = e in cc)
sent_rests false (Some s) other e = refl

pub awaiting_rests : (x : Standing) → is_some x.mailing.sent ≡ true → may_follow (may_send x) ≡ false
awaiting_rests x e = sent_rests x.ended x.mailing.sent (waits_begun x.mailing.begun (waits_idling x.idling)) e

pub rests : {S : Type 0} (step : S → Call → Answer → S → Type 0) (v : Visitor) (old : S) (p : HouseSession) → StandsFor p v → may_follow (may_send p.link.session) ≡ false → Answered step true v old old p
rests step v old p s over = record {
  after = v;
  said = [];
  answers = record { sent = []; how = waits_for v.standing; waited = refl; converses = dialogue.silent v.standing old };
  kept = sym (append-nil v.unsaid);
  all = λ w free. absurd (let a : may_follow (may_send v.standing) ≡ false = ap (λ (x : Standing). may_follow (may_send x)) (sym s.connection.session) ∙ over in let b = free in cc);
  stands = s;
}

-- ---- turns while it idles

-- what a turn said, at its place
pub turned : {S : Type 0} (step : S → Call → Answer → S → Type 0) (v : Visitor) (old new : S) (link new_link : ImapConnection) (came unsaid new_unsaid : List ℕ) (count : ℕ)
    → StandsFor (record { link = link; came = came; unsaid = unsaid }) v
    → ((d : Dialogue) → dialogue.StandsFor link d → Turns step d old new unsaid new_unsaid count new_link)
    → Turned step count v old new (record { link = new_link; came = came; unsaid = new_unsaid })
turned step v old new link new_link came unsaid new_unsaid count s turns =
    let t = turns (record { standing = v.standing; begun = s.begun }) s.connection in
    let a = t.turned in
    record {
      after = record { standing = t.next; waits = v.waits; unsaid = v.unsaid ++ a.bytes };
      said = a.bytes;
      turned = record { answers = a.answers; events = a.events; bytes = a.bytes; how = a.how; played = a.played; met = a.met; wrote = refl; shown = a.shown };
      kept = refl;
      waits = refl;
      stands = record { begun = s.begun; connection = t.stands; waits = s.waits; unsaid = a.wrote ∙ ap (λ (x : List ℕ). x ++ a.bytes) s.unsaid };
    }

-- a session that has ended has none
ended_idles_not : (x : Standing) (some : Bool) → x.ended ≡ true → is_some x.idling ≡ some → is_idling x ≡ false
ended_idles_not x true e h = ap (λ b. b && not x.ended) h ∙ ap not e
ended_idles_not x false e h = ap (λ b. b && not x.ended) h

pub turned_ended : {S : Type 0} (step : S → Call → Answer → S → Type 0) (v : Visitor) (old : S) (p : HouseSession) → StandsFor p v → p.link.session.ended ≡ true → Turned step 0 v old old p
turned_ended step v old p s over = record {
  after = v;
  said = [];
  turned = turns_awake step v.standing old [] (ended_idles_not v.standing (is_some v.standing.idling) (ap (λ (x : Standing). x.ended) (sym s.connection.session) ∙ over) refl);
  kept = sym (append-nil v.unsaid);
  waits = refl;
  stands = s;
}

-- the same, for whichever visitor
pub had_none : {S : Type 0} (step : S → Call → Answer → S → Type 0) (old : S) (p : HouseSession) → p.link.session.ended ≡ true → HadTurn step p old old 0 p
had_none step old p over = ([], turns_awake step p.link.session old [] (ended_idles_not p.link.session (is_some p.link.session.idling) over refl))

pub had_turn : {S : Type 0} (step : S → Call → Answer → S → Type 0) (p q : HouseSession) (old new : S) (before after : List ℕ) (count : ℕ) → IdleTurns step p.link.session old new before after count q.link.session → HadTurn step p old new count q
had_turn step p q old new before after count a =
    (a.bytes, record { answers = a.answers; events = a.events; bytes = a.bytes; how = a.how; played = a.played; met = a.met; wrote = refl; shown = a.shown })

-- ---- verdicts

-- what was said to a verdict, at its place
pub verdict_answered : {S : Type 0} (step : S → Call → Answer → S → Type 0) (verdict : Verdict) (v : Visitor) (old new : S) (link new_link : ImapConnection) (came unsaid new_unsaid : List ℕ) (how : After)
    → StandsFor (record { link = link; came = came; unsaid = unsaid }) v
    → ((d : Dialogue) → dialogue.StandsFor link d → Hears step d verdict old new unsaid new_unsaid how new_link)
    → AnsweredVerdict step verdict v old new (record { link = new_link; came = came; unsaid = new_unsaid })
verdict_answered step verdict v old new link new_link came unsaid new_unsaid how s hears =
    let t = hears (record { standing = v.standing; begun = s.begun }) s.connection in
    let a = t.answered in
    record {
      after = record { standing = t.next; waits = v.waits; unsaid = v.unsaid ++ a.bytes };
      said = a.bytes;
      how = how;
      answered = record { answers = a.answers; events = a.events; bytes = a.bytes; played = a.played; met = a.met; wrote = refl };
      kept = refl;
      waits = refl;
      stands = record { begun = s.begun; connection = t.stands; waits = s.waits; unsaid = a.wrote ∙ ap (λ (x : List ℕ). x ++ a.bytes) s.unsaid };
    }
