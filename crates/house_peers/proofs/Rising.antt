-- Numbers of messages only rise, whatever a session's store answers: each message that it submits has a number above those before.
use Rattle.std.proofs.Common.{◌≡◌, ◌⊎◌, inl, inr, ℕ, ◌<◌, ◌≤◌, arith, Bool, true, false, List, [], ◌∷◌, length, refl, sym, ap, ◌∙◌, subst, Option, Some, None, Result, Ok, Err}
use Rattle.std.specs.Prelude.{◌==◌}
use Rattle.change_ring.specs.declared.change.Flags.{Flags}
use Rattle.delivery_token.specs.Text.{Text}
use Rattle.delivery_token.specs.declared.Verdict.{Verdict}
use Rattle.mailbox.specs.declared.clients.MailFault.TheVariants.{Stranger, Lapped, Spent, NoMemory}
use Rattle.imap_grammar.specs.Reading.{read}
use Rattle.imap_grammar.specs.declared.command.Command.{Command}
use Rattle.imap_grammar.specs.declared.command.ImapFault.{ImapFault}
use Rattle.imap_session.specs.declared.standing.After.{After}
use Rattle.imap_session.specs.declared.standing.Selected.{Selected}
use Rattle.imap_session.specs.Store.{IdleTurns}
use Rattle.imap_session.specs.Exchange.{Answer, Discarded, PendingLiteral, Call, Entered, Looked, Found, Counted, Altered, Expunged, Fed, ForVerdict, Left, Mailing, Origin, Refused, Sent, Starved, Exchange, Standing, Turn, is_idling, played}
use Rattle.imap_session.specs.Commands as commands_of
use Rattle.imap_session.proofs.Barring.{line_has}
use Rattle.imap_session.proofs.Parts.{rest_has, text_line_has}
use Rattle.imap_session.specs.Texts.{response_text}
use Rattle.imap_session.proofs.Following.{TurnHas, WaitsSo, all_submit, played_has}
use Rattle.imap_session.specs.Commands.{on_idle_line, on_rest, on_verdict, without_begun, without_sent}
use Rattle.imap_session.specs.Dialogue as dialogue
use Rattle.imap_session.specs.Dialogue.{AnswersLine, AnswersOne, Converses, Sends, goes_on, parts, reads, silent, too_long}

-- from here the next number only rises, and a message that was submitted since has one of the numbers between
abbrev pub RisesTo : Mailing → (number : ℕ) → (sent : Option Sent) → Type 0
RisesTo now number sent = (now.number ≤ number) × ((s : Sent) → sent ≡ Some s → (now.sent ≡ Some s) ⊎ ((now.number ≤ s.append.message) × (s.append.message < number)))

-- the same from one to the other
abbrev pub NumbersRise : Mailing → Mailing → Type 0
NumbersRise now next = RisesTo now next.number next.sent

same_rises : (now next : Mailing) → next.number ≡ now.number → next.sent ≡ now.sent → NumbersRise now next
same_rises now next e f = (omega (arith, e), λ s is. inl (sym f ∙ is))

pub then_rises : (a b c : Mailing) → NumbersRise a b → NumbersRise b c → NumbersRise a c
then_rises a b c p q = let p0 = p.0 in let q0 = q.0 in (omega (arith, p0, q0), λ s is. between s (q.1 s is))
  where
    between : (s : Sent) → (b.sent ≡ Some s) ⊎ ((b.number ≤ s.append.message) × (s.append.message < c.number)) → (a.sent ≡ Some s) ⊎ ((a.number ≤ s.append.message) × (s.append.message < c.number))
    between s (inr r) = let r0 = r.0 in let p0 = p.0 in inr (omega (arith, p0, r0), r.1)
    between s (inl e) = before s (p.1 s e)
      where
        before : (s : Sent) → (a.sent ≡ Some s) ⊎ ((a.number ≤ s.append.message) × (s.append.message < b.number)) → (a.sent ≡ Some s) ⊎ ((a.number ≤ s.append.message) × (s.append.message < c.number))
        before s (inl f) = inl f
        before s (inr r) = let r1 = r.1 in let q0 = q.0 in inr (r.0, omega (arith, r1, q0))

-- ---- where an exchange leads

abbrev TurnRises : Mailing → Option Turn → Type 0
TurnRises now = TurnHas (RisesTo now)

-- a message that is submitted has the next number
submit_rises : (tag : List ℕ) (now : Mailing) (origin : Origin) (mailbox : ℕ) (flags : Flags) (text : Text) → WaitsSo (RisesTo now) tag now.number (ForVerdict origin mailbox flags text)
submit_rises tag now origin mailbox flags text = (
  omega arith,
  λ s is. let e : record { tag = tag; append = record { message = now.number; mailbox = mailbox; text = text; flags = flags }; origin = origin } ≡ s = cc in let m : now.number ≡ s.append.message = ap (λ (x : Sent). x.append.message) e in
      inr (omega (arith, m), omega (arith, m)),
)

-- from another that has the same number and the same message
again : (a b : Mailing) (o : Option Turn) → NumbersRise b a → TurnRises a o → TurnRises b o
again a b None p q = tt
again a b (Some turn) p q = then_rises b a turn.standing.mailing p q

played_rises : (tag : List ℕ) (now : Standing) (x : Exchange) (answers : List Answer) → TurnRises now.mailing (played tag now x answers)
played_rises tag now x answers =
    played_has (RisesTo now.mailing) tag now x answers (same_rises now.mailing now.mailing refl refl)
    (all_submit (RisesTo now.mailing) tag now.mailing.number (λ origin mailbox flags text. submit_rises tag now.mailing origin mailbox flags text) x)

-- ---- lines, bytes and verdicts

some_rises : (now : Mailing) (o : Option Turn) (turn : Turn) → TurnRises now o → o ≡ Some turn → NumbersRise now turn.standing.mailing
some_rises now o turn p e = subst (TurnRises now) e p

fault_rises : (fault : ImapFault) (now : Standing) (answers : List Answer) → TurnRises now.mailing (commands_of.on_read now (Err fault) answers)
fault_rises fault now [] = same_rises now.mailing now.mailing refl refl
fault_rises fault now (answer ∷ more) = tt

read_rises : (now : Standing) (line : Result (List ℕ × Command) ImapFault) (answers : List Answer) → TurnRises now.mailing (commands_of.on_read now line answers)
read_rises now (Ok line) answers =
    line_has (TurnRises now.mailing) now line.0 line.1 answers
    (λ right. again (commands_of.logged_in now).mailing now.mailing _ (same_rises now.mailing (commands_of.logged_in now).mailing refl refl) (played_rises line.0 (commands_of.logged_in now) (commands_of.completed line.1) answers))
    (λ text refused. played_rises line.0 now (commands_of.says (response_text text)) answers)
    (played_rises line.0 now (commands_of.on_command line.0 now line.1) answers)
read_rises now (Err fault) answers = fault_rises fault now answers

text_rises : (now : Standing) (line : List ℕ) (answers : List Answer) → TurnRises now.mailing (commands_of.on_text_line now line answers)
text_rises now line answers = text_line_has (TurnRises now.mailing) now line answers (λ tag x part. played_rises tag now x answers) (read_rises now (read line) answers)

while_rises : (idling : Option (List ℕ)) (now : Standing) (line : List ℕ) (answers : List Answer) → TurnRises now.mailing (commands_of.turn_while idling now line answers)
while_rises None now line answers = text_rises now line answers
while_rises (Some tag) now line answers = played_rises tag (record now { idling = None }) (on_idle_line now.selected line) answers

behind_rises : (begun : Option PendingLiteral) (now : Standing) (line : List ℕ) (answers : List Answer) → TurnRises now.mailing (commands_of.turn_behind begun now line answers)
behind_rises None now line answers = while_rises now.idling now line answers
behind_rises (Some a) now line answers =
    let before = same_rises now.mailing (without_begun now).mailing refl refl in
    rest_has (TurnRises now.mailing) a now line answers
    (again (without_begun now).mailing now.mailing _ before (played_rises a.tag (without_begun now) (on_rest now.mailing a (length line == 0)) answers))
    (λ x part. again (without_begun now).mailing now.mailing _ before (played_rises a.tag (without_begun now) x answers))
    (λ whole. again (without_begun now).mailing now.mailing _ before (text_rises (without_begun now) whole answers))

line_rises : {S : Type 0} (step : S → Call → Answer → S → Type 0) (now : Standing) (line : List ℕ) (old new : S) (before after : List ℕ) (how : After) (next : Standing) → AnswersLine step now line old new before after how next → NumbersRise now.mailing next.mailing
line_rises step now line old new before after how next (reads few a) = some_rises now.mailing _ _ (behind_rises now.mailing.begun now line a.answers) a.played
line_rises step now line old new before after how next (too_long many s w h n) =
    subst (λ (x : Standing). NumbersRise now.mailing x.mailing) (sym n) (same_rises now.mailing (commands_of.turn_of_long_line now).standing.mailing refl refl)

one_rises : {S : Type 0} (step : S → Call → Answer → S → Type 0) (now : Standing) (one : Sends) (old new : S) (before after : List ℕ) (how : After) (next : Standing) → AnswersOne step now one old new before after how next → NumbersRise now.mailing next.mailing
one_rises step now (dialogue.Line line) old new before after how next a = line_rises step now line old new before after how next a.2
one_rises step now (dialogue.Bytes bytes) old new before after how next t =
    subst (λ (x : Standing). NumbersRise now.mailing x.mailing) (sym t.takes.1) (same_rises now.mailing (commands_of.with_bytes t.takes.0 bytes now).mailing refl refl)

pub converses_rise : {S : Type 0} (step : S → Call → Answer → S → Type 0) (now : Standing) (sent : List Sends) (old new : S) (said : List ℕ) (how : After) (next : Standing) → Converses step now sent old new said how next → NumbersRise now.mailing next.mailing
converses_rise step now sent old new said how next (silent a b) = same_rises now.mailing now.mailing refl refl
converses_rise step now sent old new said how next (parts a b one c d x e stops answered) = one_rises step now one old new [] said how next answered
converses_rise step now sent old new said how next (goes_on a between b one others c mid d first second e follows answered more) =
    then_rises now.mailing between.mailing next.mailing (one_rises step now one old mid [] first _ between answered) (converses_rise step between others mid new second how next more)

-- behind a verdict the number of the next message is what it was or above, and so is that of one that was submitted then
pub verdict_rises : (now : Standing) (verdict : Verdict) (answers : List Answer) (turn : Turn) → commands_of.turn_of_verdict now verdict answers ≡ Some turn → NumbersRise (without_sent now).mailing turn.standing.mailing
verdict_rises now verdict answers turn e = of now.mailing.sent e
  where
    of : (sent : Option Sent) → commands_of.turn_with sent now verdict answers ≡ Some turn → NumbersRise (without_sent now).mailing turn.standing.mailing
    of None e = absurd (let x : None ≡ Some turn = e in cc)
    of (Some sent) e = some_rises (without_sent now).mailing _ turn (played_rises sent.tag (without_sent now) (on_verdict now.mailing now.selected sent.origin sent.append.mailbox verdict) answers) e

-- ---- turns while it idles

-- what is known of the messages that a client appends stays
TurnKeeps : Mailing → Option Turn → Type 0
TurnKeeps now None = Unit {0}
TurnKeeps now (Some turn) = turn.standing.mailing ≡ now

idle_keeps : (selected : Option Selected) (idling : Bool) (now : Standing) (answers : List Answer) → TurnKeeps now.mailing (commands_of.idle_turn_in selected idling now answers)
unfolding TurnKeeps
idle_keeps None idling now [] = refl
idle_keeps None idling now (answer ∷ more) = tt
idle_keeps (Some s) false now [] = refl
idle_keeps (Some s) false now (answer ∷ more) = tt
idle_keeps (Some s) true now [] = tt
idle_keeps (Some s) true now ((Entered a) ∷ more) = tt
idle_keeps (Some s) true now ((Looked a) ∷ more) = tt
idle_keeps (Some s) true now ((Found a) ∷ more) = tt
idle_keeps (Some s) true now ((Counted a) ∷ more) = tt
idle_keeps (Some s) true now ((Altered a) ∷ more) = tt
idle_keeps (Some s) true now ((Expunged a b c) ∷ more) = tt
idle_keeps (Some s) true now (Fed a b ∷ []) = refl
idle_keeps (Some s) true now (Fed a b ∷ d ∷ more) = tt
idle_keeps (Some s) true now ((Left a) ∷ more) = tt
idle_keeps (Some s) true now (Discarded ∷ more) = tt
idle_keeps (Some s) true now (Refused Lapped ∷ []) = refl
idle_keeps (Some s) true now (Refused Lapped ∷ d ∷ more) = tt
idle_keeps (Some s) true now (Refused Stranger ∷ []) = refl
idle_keeps (Some s) true now (Refused Stranger ∷ d ∷ more) = tt
idle_keeps (Some s) true now (Refused Spent ∷ more) = tt
idle_keeps (Some s) true now (Refused NoMemory ∷ more) = tt
idle_keeps (Some s) true now ((Starved a) ∷ more) = tt

some_keeps : (now : Mailing) (o : Option Turn) (turn : Turn) → TurnKeeps now o → o ≡ Some turn → turn.standing.mailing ≡ now
unfolding TurnKeeps
some_keeps now o turn p e = subst (TurnKeeps now) e p

pub idles_keep : {S : Type 0} (step : S → Call → Answer → S → Type 0) (now : Standing) (old new : S) (before after : List ℕ) (count : ℕ) (next : Standing) → IdleTurns step now old new before after count next → next.mailing ≡ now.mailing
idles_keep step now old new before after count next t = some_keeps now.mailing _ _ (idle_keeps now.selected (is_idling now) now t.answers) t.played
