-- Where an exchange leads, by what it may submit: the number of the next message, and the message that waits for its verdict.
use Rattle.std.proofs.Common.{◌≡◌, ◌⊎◌, inl, inr, ℕ, zero, suc, ◌+◌, arith, Bool, true, false, List, [], ◌∷◌, length, ◌++◌, refl, sym, subst, Option, Some, None}
use Rattle.std.specs.Prelude.{nat_le, if◌then◌else◌}
use Rattle.std.specs.Option.{option_map}
use Rattle.change_ring.specs.declared.change.Change.{Change}
use Rattle.change_ring.specs.declared.change.Flags.{Flags}
use Rattle.cursor_set.specs.Lines.{lines}
use Rattle.delivery_token.specs.declared.Verdict.{Verdict}
use Rattle.delivery_token.specs.declared.Verdict.TheVariants as verdicts
use Rattle.mailbox.specs.declared.clients.MailFault.TheVariants.{NoMemory}
use Rattle.mailbox.specs.declared.clients.Opening.{Opening}
use Rattle.mailbox.specs.declared.clients.Row.{Row}
use Rattle.mailbox.specs.declared.mailbox.Status.{Status}
use Rattle.delivery_token.specs.Text.{Text}
use Rattle.imap_session.specs.declared.standing.After.{After}
use Rattle.imap_session.specs.declared.standing.After.TheVariants.{Go, Bye}
use Rattle.imap_session.specs.declared.standing.After.TheVariants as afters
use Rattle.imap_session.specs.declared.standing.Selected.{Selected}
use Rattle.imap_session.specs.Exchange as ex
use Rattle.imap_session.specs.Exchange.{Answer, Batch, Call, Client, Copied, Discarded, Entered, Looked, Found, Counted, Altered, Expunged, Fed, ForDone, ForLiteral, ForNothing, ForVerdict, Left, Mailing, Origin, Refused, Sent, Starved, Exchange, Standing, Turn, Waiting, closed, having, played, refusal_after, saying, waiting, Dropped}
use Rattle.imap_session.specs.Commands.{appended_words, copied_words, last_number, on_verdict, refused_text, says, showing, submitted, submitting_first, taking_back, told_copied, turn_with, with_copy, with_validity, without_sent}
use Rattle.imap_session.specs.Store.{AnswersVerdict, Follows, to_follow}
use Rattle.imap_session.specs.declared.texts.ResponseText.TheVariants as texts
use Rattle.imap_session.specs.Texts.{response_text}
use Rattle.imap_session.proofs.Unkept.{unkept_by}

-- ---- what an exchange may submit

abbrev pub WaitsSo : (P : ℕ → Option Sent → Type 0) (tag : List ℕ) (number : ℕ) → Waiting → Type 0
WaitsSo P tag number (ForVerdict origin mailbox flags text) =
    P (number + 1) (Some (record { tag = tag; append = record { message = number; mailbox = mailbox; text = text; flags = flags }; origin = origin }))
WaitsSo P tag number waits = Unit {0}

-- wherever it waits for a verdict, this holds of the number of the next message, and of the one that it submits with this tag and number
abbrev pub SubmitsSo : (P : ℕ → Option Sent → Type 0) (tag : List ℕ) (number : ℕ) → Exchange → Type 0
SubmitsSo P tag number (ex.Done words how) = Unit {0}
SubmitsSo P tag number (ex.Wait bytes waits) = WaitsSo P tag number waits
SubmitsSo P tag number (ex.Write bytes x) = SubmitsSo P tag number x
SubmitsSo P tag number (ex.Put bytes x) = SubmitsSo P tag number x
SubmitsSo P tag number (ex.Enter selected next) = (opening : Opening) → SubmitsSo P tag number (next opening)
SubmitsSo P tag number (ex.Look by_uid set next) = (view : List ℕ) → SubmitsSo P tag number (next view)
SubmitsSo P tag number (ex.Read uid mark next) = (row : Option Row) → SubmitsSo P tag number (next row)
SubmitsSo P tag number (ex.Count mailbox next) = (status : Status) → SubmitsSo P tag number (next status)
SubmitsSo P tag number (ex.Alter uid op next) = (flags : Option Flags) → SubmitsSo P tag number (next flags)
SubmitsSo P tag number (ex.Expunge uids x) = SubmitsSo P tag number x
SubmitsSo P tag number (ex.Feed limit x) = SubmitsSo P tag number x
SubmitsSo P tag number (ex.Leave remove x) = SubmitsSo P tag number x
SubmitsSo P tag number (ex.Discard mailbox uids x) = SubmitsSo P tag number x

-- of each message that may be submitted it is so
pub all_submit : (P : ℕ → Option Sent → Type 0) (tag : List ℕ) (number : ℕ)
    → ((origin : Origin) (mailbox : ℕ) (flags : Flags) (text : Text) → WaitsSo P tag number (ForVerdict origin mailbox flags text)) → (x : Exchange) → SubmitsSo P tag number x
all_submit P tag number each (ex.Done words how) = tt
all_submit P tag number each (ex.Wait bytes ForDone) = tt
all_submit P tag number each (ex.Wait bytes (ForLiteral coming purpose size)) = tt
all_submit P tag number each (ex.Wait bytes (ForVerdict origin mailbox flags text)) = each origin mailbox flags text
all_submit P tag number each (ex.Wait bytes ForNothing) = tt
all_submit P tag number each (ex.Write bytes x) = all_submit P tag number each x
all_submit P tag number each (ex.Put bytes x) = all_submit P tag number each x
all_submit P tag number each (ex.Enter selected next) = λ opening. all_submit P tag number each (next opening)
all_submit P tag number each (ex.Look by_uid set next) = λ view. all_submit P tag number each (next view)
all_submit P tag number each (ex.Read uid mark next) = λ row. all_submit P tag number each (next row)
all_submit P tag number each (ex.Count mailbox next) = λ status. all_submit P tag number each (next status)
all_submit P tag number each (ex.Alter uid op next) = λ flags. all_submit P tag number each (next flags)
all_submit P tag number each (ex.Expunge uids x) = all_submit P tag number each x
all_submit P tag number each (ex.Feed limit x) = all_submit P tag number each x
all_submit P tag number each (ex.Leave remove x) = all_submit P tag number each x
all_submit P tag number each (ex.Discard mailbox uids x) = all_submit P tag number each x

-- ---- where it leads

abbrev pub MailingHas : (P : ℕ → Option Sent → Type 0) → Mailing → Type 0
MailingHas P mailing = P mailing.number mailing.sent

abbrev pub TurnHas : (P : ℕ → Option Sent → Type 0) → Option Turn → Type 0
TurnHas P None = Unit {0}
TurnHas P (Some turn) = MailingHas P turn.standing.mailing

closed_has : (P : ℕ → Option Sent → Type 0) (now : Standing) (how : After) → MailingHas P now.mailing → MailingHas P (closed now how).standing.mailing
closed_has P now Go p = p
closed_has P now Bye p = p
closed_has P now afters.Idle p = p
closed_has P now (afters.Literal due) p = p
closed_has P now afters.Submit p = p

waiting_has : (P : ℕ → Option Sent → Type 0) (tag : List ℕ) (waits : Waiting) (now : Standing) → MailingHas P now.mailing → WaitsSo P tag now.mailing.number waits → MailingHas P (waiting tag waits now).mailing
waiting_has P tag ForDone now p w = p
waiting_has P tag (ForLiteral coming purpose size) now p w = p
waiting_has P tag (ForVerdict origin mailbox flags text) now p w = w
waiting_has P tag ForNothing now p w = p

then_having : (P : ℕ → Option Sent → Type 0) (call : Call) (answer : Answer) (o : Option Turn) → TurnHas P o → TurnHas P (option_map (having call answer) o)
then_having P call answer None p = tt
then_having P call answer (Some turn) p = p

then_saying : (P : ℕ → Option Sent → Type 0) (bytes : List ℕ) (o : Option Turn) → TurnHas P o → TurnHas P (option_map (saying bytes) o)
then_saying P bytes None p = tt
then_saying P bytes (Some turn) p = p

then_showing : (P : ℕ → Option Sent → Type 0) (call : Call) (answer : Answer) (view : List ℕ) (changes : List Change) (o : Option Turn) → TurnHas P o
    → TurnHas P (option_map (λ turn. having call answer (saying (lines view changes) turn)) o)
then_showing P call answer view changes None p = tt
then_showing P call answer view changes (Some turn) p = p

-- What holds where the exchange begins, and of each message that it submits, holds where it leads.
pub played_has : (P : ℕ → Option Sent → Type 0) (tag : List ℕ) (now : Standing) (x : Exchange) (answers : List Answer) → MailingHas P now.mailing → SubmitsSo P tag now.mailing.number x → TurnHas P (played tag now x answers)
played_has P tag now (ex.Done words how) [] p s = closed_has P now how p
played_has P tag now (ex.Done words how) (answer ∷ more) p s = tt
played_has P tag now (ex.Wait bytes waits) [] p s = waiting_has P tag waits now p s
played_has P tag now (ex.Wait bytes waits) ((Entered a) ∷ more) p s = tt
played_has P tag now (ex.Wait bytes waits) ((Looked a) ∷ more) p s = tt
played_has P tag now (ex.Wait bytes waits) ((Found a) ∷ more) p s = tt
played_has P tag now (ex.Wait bytes waits) ((Counted a) ∷ more) p s = tt
played_has P tag now (ex.Wait bytes waits) ((Altered a) ∷ more) p s = tt
played_has P tag now (ex.Wait bytes waits) ((Expunged a b c) ∷ more) p s = tt
played_has P tag now (ex.Wait bytes waits) ((Fed a b) ∷ more) p s = tt
played_has P tag now (ex.Wait bytes waits) ((Left a) ∷ more) p s = tt
played_has P tag now (ex.Wait bytes waits) (Discarded ∷ more) p s = tt
played_has P tag now (ex.Wait bytes waits) ((Refused a) ∷ more) p s = tt
played_has P tag now (ex.Wait bytes waits) (Starved n ∷ []) p s =
    unkept_by (TurnHas P) tt tag now (closed_has P now (refusal_after NoMemory) p) (λ purpose size. p) p waits n
played_has P tag now (ex.Wait bytes waits) (Starved n ∷ d ∷ more) p s = tt
played_has P tag now (ex.Write bytes x) [] p s = then_saying P bytes (played tag now x []) (played_has P tag now x [] p s)
played_has P tag now (ex.Write bytes x) ((Entered a) ∷ more) p s = then_saying P bytes (played tag now x ((Entered a) ∷ more)) (played_has P tag now x ((Entered a) ∷ more) p s)
played_has P tag now (ex.Write bytes x) ((Looked a) ∷ more) p s = then_saying P bytes (played tag now x ((Looked a) ∷ more)) (played_has P tag now x ((Looked a) ∷ more) p s)
played_has P tag now (ex.Write bytes x) ((Found a) ∷ more) p s = then_saying P bytes (played tag now x ((Found a) ∷ more)) (played_has P tag now x ((Found a) ∷ more) p s)
played_has P tag now (ex.Write bytes x) ((Counted a) ∷ more) p s = then_saying P bytes (played tag now x ((Counted a) ∷ more)) (played_has P tag now x ((Counted a) ∷ more) p s)
played_has P tag now (ex.Write bytes x) ((Altered a) ∷ more) p s = then_saying P bytes (played tag now x ((Altered a) ∷ more)) (played_has P tag now x ((Altered a) ∷ more) p s)
played_has P tag now (ex.Write bytes x) ((Expunged a b c) ∷ more) p s = then_saying P bytes (played tag now x ((Expunged a b c) ∷ more)) (played_has P tag now x ((Expunged a b c) ∷ more) p s)
played_has P tag now (ex.Write bytes x) ((Fed a b) ∷ more) p s = then_saying P bytes (played tag now x ((Fed a b) ∷ more)) (played_has P tag now x ((Fed a b) ∷ more) p s)
played_has P tag now (ex.Write bytes x) ((Left a) ∷ more) p s = then_saying P bytes (played tag now x ((Left a) ∷ more)) (played_has P tag now x ((Left a) ∷ more) p s)
played_has P tag now (ex.Write bytes x) (Discarded ∷ more) p s = then_saying P bytes (played tag now x (Discarded ∷ more)) (played_has P tag now x (Discarded ∷ more) p s)
played_has P tag now (ex.Write bytes x) ((Refused a) ∷ more) p s = then_saying P bytes (played tag now x ((Refused a) ∷ more)) (played_has P tag now x ((Refused a) ∷ more) p s)
played_has P tag now (ex.Write bytes x) (Starved zero ∷ []) p s = closed_has P now (refusal_after NoMemory) p
played_has P tag now (ex.Write bytes x) (Starved zero ∷ d ∷ more) p s = then_saying P bytes (played tag now x (Starved zero ∷ d ∷ more)) (played_has P tag now x (Starved zero ∷ d ∷ more) p s)
played_has P tag now (ex.Write bytes x) (Starved (suc a) ∷ []) p s = then_saying P bytes (played tag now x (Starved a ∷ [])) (played_has P tag now x (Starved a ∷ []) p s)
played_has P tag now (ex.Write bytes x) (Starved (suc a) ∷ d ∷ more) p s = then_saying P bytes (played tag now x (Starved (suc a) ∷ d ∷ more)) (played_has P tag now x (Starved (suc a) ∷ d ∷ more) p s)
played_has P tag now (ex.Put bytes x) answers p s = then_saying P bytes (played tag now x answers) (played_has P tag now x answers p s)
played_has P tag now (ex.Enter selected next) [] p s = tt
played_has P tag now (ex.Enter selected next) ((Entered a) ∷ more) p s = then_having P (ex.Enter selected.mailbox) (Entered a) (played tag (record now { selected = Some selected }) (next a) more) (played_has P tag (record now { selected = Some selected }) (next a) more p (s a))
played_has P tag now (ex.Enter selected next) ((Looked a) ∷ more) p s = tt
played_has P tag now (ex.Enter selected next) ((Found a) ∷ more) p s = tt
played_has P tag now (ex.Enter selected next) ((Counted a) ∷ more) p s = tt
played_has P tag now (ex.Enter selected next) ((Altered a) ∷ more) p s = tt
played_has P tag now (ex.Enter selected next) ((Expunged a b c) ∷ more) p s = tt
played_has P tag now (ex.Enter selected next) ((Fed a b) ∷ more) p s = tt
played_has P tag now (ex.Enter selected next) ((Left a) ∷ more) p s = tt
played_has P tag now (ex.Enter selected next) (Discarded ∷ more) p s = tt
played_has P tag now (ex.Enter selected next) (Refused a ∷ []) p s = closed_has P now (refusal_after a) p
played_has P tag now (ex.Enter selected next) (Refused a ∷ d ∷ more) p s = tt
played_has P tag now (ex.Enter selected next) (Starved zero ∷ more) p s = tt
played_has P tag now (ex.Enter selected next) (Starved (suc a) ∷ more) p s = tt
played_has P tag now (ex.Look by_uid set next) [] p s = tt
played_has P tag now (ex.Look by_uid set next) ((Entered a) ∷ more) p s = tt
played_has P tag now (ex.Look by_uid set next) ((Looked a) ∷ more) p s = then_having P (ex.Look by_uid set) (Looked a) (played tag now (next a) more) (played_has P tag now (next a) more p (s a))
played_has P tag now (ex.Look by_uid set next) ((Found a) ∷ more) p s = tt
played_has P tag now (ex.Look by_uid set next) ((Counted a) ∷ more) p s = tt
played_has P tag now (ex.Look by_uid set next) ((Altered a) ∷ more) p s = tt
played_has P tag now (ex.Look by_uid set next) ((Expunged a b c) ∷ more) p s = tt
played_has P tag now (ex.Look by_uid set next) ((Fed a b) ∷ more) p s = tt
played_has P tag now (ex.Look by_uid set next) ((Left a) ∷ more) p s = tt
played_has P tag now (ex.Look by_uid set next) (Discarded ∷ more) p s = tt
played_has P tag now (ex.Look by_uid set next) (Refused a ∷ []) p s = closed_has P now (refusal_after a) p
played_has P tag now (ex.Look by_uid set next) (Refused a ∷ d ∷ more) p s = tt
played_has P tag now (ex.Look by_uid set next) (Starved zero ∷ more) p s = tt
played_has P tag now (ex.Look by_uid set next) (Starved (suc a) ∷ more) p s = tt
played_has P tag now (ex.Read uid mark next) [] p s = tt
played_has P tag now (ex.Read uid mark next) ((Entered a) ∷ more) p s = tt
played_has P tag now (ex.Read uid mark next) ((Looked a) ∷ more) p s = tt
played_has P tag now (ex.Read uid mark next) ((Found a) ∷ more) p s = then_having P (ex.Read uid mark) (Found a) (played tag now (next a) more) (played_has P tag now (next a) more p (s a))
played_has P tag now (ex.Read uid mark next) ((Counted a) ∷ more) p s = tt
played_has P tag now (ex.Read uid mark next) ((Altered a) ∷ more) p s = tt
played_has P tag now (ex.Read uid mark next) ((Expunged a b c) ∷ more) p s = tt
played_has P tag now (ex.Read uid mark next) ((Fed a b) ∷ more) p s = tt
played_has P tag now (ex.Read uid mark next) ((Left a) ∷ more) p s = tt
played_has P tag now (ex.Read uid mark next) (Discarded ∷ more) p s = tt
played_has P tag now (ex.Read uid mark next) (Refused a ∷ []) p s = closed_has P now (refusal_after a) p
played_has P tag now (ex.Read uid mark next) (Refused a ∷ d ∷ more) p s = tt
played_has P tag now (ex.Read uid mark next) (Starved zero ∷ more) p s = tt
played_has P tag now (ex.Read uid mark next) (Starved (suc a) ∷ more) p s = tt
played_has P tag now (ex.Count mailbox next) [] p s = tt
played_has P tag now (ex.Count mailbox next) ((Entered a) ∷ more) p s = tt
played_has P tag now (ex.Count mailbox next) ((Looked a) ∷ more) p s = tt
played_has P tag now (ex.Count mailbox next) ((Found a) ∷ more) p s = tt
played_has P tag now (ex.Count mailbox next) ((Counted a) ∷ more) p s = then_having P (ex.Count mailbox) (Counted a) (played tag now (next a) more) (played_has P tag now (next a) more p (s a))
played_has P tag now (ex.Count mailbox next) ((Altered a) ∷ more) p s = tt
played_has P tag now (ex.Count mailbox next) ((Expunged a b c) ∷ more) p s = tt
played_has P tag now (ex.Count mailbox next) ((Fed a b) ∷ more) p s = tt
played_has P tag now (ex.Count mailbox next) ((Left a) ∷ more) p s = tt
played_has P tag now (ex.Count mailbox next) (Discarded ∷ more) p s = tt
played_has P tag now (ex.Count mailbox next) (Refused a ∷ []) p s = closed_has P now (refusal_after a) p
played_has P tag now (ex.Count mailbox next) (Refused a ∷ d ∷ more) p s = tt
played_has P tag now (ex.Count mailbox next) (Starved zero ∷ more) p s = tt
played_has P tag now (ex.Count mailbox next) (Starved (suc a) ∷ more) p s = tt
played_has P tag now (ex.Alter uid op next) [] p s = tt
played_has P tag now (ex.Alter uid op next) ((Entered a) ∷ more) p s = tt
played_has P tag now (ex.Alter uid op next) ((Looked a) ∷ more) p s = tt
played_has P tag now (ex.Alter uid op next) ((Found a) ∷ more) p s = tt
played_has P tag now (ex.Alter uid op next) ((Counted a) ∷ more) p s = tt
played_has P tag now (ex.Alter uid op next) ((Altered a) ∷ more) p s = then_having P (ex.Alter uid op) (Altered a) (played tag now (next a) more) (played_has P tag now (next a) more p (s a))
played_has P tag now (ex.Alter uid op next) ((Expunged a b c) ∷ more) p s = tt
played_has P tag now (ex.Alter uid op next) ((Fed a b) ∷ more) p s = tt
played_has P tag now (ex.Alter uid op next) ((Left a) ∷ more) p s = tt
played_has P tag now (ex.Alter uid op next) (Discarded ∷ more) p s = tt
played_has P tag now (ex.Alter uid op next) (Refused a ∷ []) p s = closed_has P now (refusal_after a) p
played_has P tag now (ex.Alter uid op next) (Refused a ∷ d ∷ more) p s = tt
played_has P tag now (ex.Alter uid op next) (Starved zero ∷ more) p s = tt
played_has P tag now (ex.Alter uid op next) (Starved (suc a) ∷ more) p s = tt
played_has P tag now (ex.Expunge uids x) [] p s = tt
played_has P tag now (ex.Expunge uids x) ((Entered a) ∷ more) p s = tt
played_has P tag now (ex.Expunge uids x) ((Looked a) ∷ more) p s = tt
played_has P tag now (ex.Expunge uids x) ((Found a) ∷ more) p s = tt
played_has P tag now (ex.Expunge uids x) ((Counted a) ∷ more) p s = tt
played_has P tag now (ex.Expunge uids x) ((Altered a) ∷ more) p s = tt
played_has P tag now (ex.Expunge uids x) ((Expunged a b c) ∷ more) p s = then_showing P (ex.Expunge uids) (Expunged a b c) a b (played tag now x more) (played_has P tag now x more p s)
played_has P tag now (ex.Expunge uids x) ((Fed a b) ∷ more) p s = tt
played_has P tag now (ex.Expunge uids x) ((Left a) ∷ more) p s = tt
played_has P tag now (ex.Expunge uids x) (Discarded ∷ more) p s = tt
played_has P tag now (ex.Expunge uids x) (Refused a ∷ []) p s = closed_has P now (refusal_after a) p
played_has P tag now (ex.Expunge uids x) (Refused a ∷ d ∷ more) p s = tt
played_has P tag now (ex.Expunge uids x) (Starved zero ∷ more) p s = tt
played_has P tag now (ex.Expunge uids x) (Starved (suc a) ∷ more) p s = tt
played_has P tag now (ex.Feed limit x) [] p s = tt
played_has P tag now (ex.Feed limit x) ((Entered a) ∷ more) p s = tt
played_has P tag now (ex.Feed limit x) ((Looked a) ∷ more) p s = tt
played_has P tag now (ex.Feed limit x) ((Found a) ∷ more) p s = tt
played_has P tag now (ex.Feed limit x) ((Counted a) ∷ more) p s = tt
played_has P tag now (ex.Feed limit x) ((Altered a) ∷ more) p s = tt
played_has P tag now (ex.Feed limit x) ((Expunged a b c) ∷ more) p s = tt
played_has P tag now (ex.Feed limit x) ((Fed a b) ∷ more) p s = then_showing P (ex.Feed limit) (Fed a b) a b (played tag now x more) (played_has P tag now x more p s)
played_has P tag now (ex.Feed limit x) ((Left a) ∷ more) p s = tt
played_has P tag now (ex.Feed limit x) (Discarded ∷ more) p s = tt
played_has P tag now (ex.Feed limit x) (Refused a ∷ []) p s = closed_has P now (refusal_after a) p
played_has P tag now (ex.Feed limit x) (Refused a ∷ d ∷ more) p s = tt
played_has P tag now (ex.Feed limit x) (Starved zero ∷ more) p s = tt
played_has P tag now (ex.Feed limit x) (Starved (suc a) ∷ more) p s = tt
played_has P tag now (ex.Leave remove x) [] p s = tt
played_has P tag now (ex.Leave remove x) ((Entered a) ∷ more) p s = tt
played_has P tag now (ex.Leave remove x) ((Looked a) ∷ more) p s = tt
played_has P tag now (ex.Leave remove x) ((Found a) ∷ more) p s = tt
played_has P tag now (ex.Leave remove x) ((Counted a) ∷ more) p s = tt
played_has P tag now (ex.Leave remove x) ((Altered a) ∷ more) p s = tt
played_has P tag now (ex.Leave remove x) ((Expunged a b c) ∷ more) p s = tt
played_has P tag now (ex.Leave remove x) ((Fed a b) ∷ more) p s = tt
played_has P tag now (ex.Leave remove x) ((Left a) ∷ more) p s = then_having P (ex.Leave remove) (Left a) (played tag (record now { selected = None }) x more) (played_has P tag (record now { selected = None }) x more p s)
played_has P tag now (ex.Leave remove x) (Discarded ∷ more) p s = tt
played_has P tag now (ex.Leave remove x) (Refused a ∷ []) p s = closed_has P now (refusal_after a) p
played_has P tag now (ex.Leave remove x) (Refused a ∷ d ∷ more) p s = tt
played_has P tag now (ex.Leave remove x) (Starved zero ∷ more) p s = tt
played_has P tag now (ex.Leave remove x) (Starved (suc a) ∷ more) p s = tt
played_has P tag now (ex.Discard mailbox uids x) [] p s = tt
played_has P tag now (ex.Discard mailbox uids x) ((Entered a) ∷ more) p s = tt
played_has P tag now (ex.Discard mailbox uids x) ((Looked a) ∷ more) p s = tt
played_has P tag now (ex.Discard mailbox uids x) ((Found a) ∷ more) p s = tt
played_has P tag now (ex.Discard mailbox uids x) ((Counted a) ∷ more) p s = tt
played_has P tag now (ex.Discard mailbox uids x) ((Altered a) ∷ more) p s = tt
played_has P tag now (ex.Discard mailbox uids x) ((Expunged a b c) ∷ more) p s = tt
played_has P tag now (ex.Discard mailbox uids x) ((Fed a b) ∷ more) p s = tt
played_has P tag now (ex.Discard mailbox uids x) ((Left a) ∷ more) p s = tt
played_has P tag now (ex.Discard mailbox uids x) (Discarded ∷ more) p s = then_having P (ex.Discard mailbox uids) Discarded (played tag now x more) (played_has P tag now x more p s)
played_has P tag now (ex.Discard mailbox uids x) (Refused a ∷ []) p s = closed_has P now (refusal_after a) p
played_has P tag now (ex.Discard mailbox uids x) (Refused a ∷ d ∷ more) p s = tt
played_has P tag now (ex.Discard mailbox uids x) (Starved zero ∷ more) p s = tt
played_has P tag now (ex.Discard mailbox uids x) (Starved (suc a) ∷ more) p s = tt

-- ---- what follows a verdict

-- behind a verdict, where so many were left
FollowsFew : ℕ → ℕ → Option Sent → Type 0
FollowsFew many number new = (new ≡ None) ⊎ (to_follow new + 1 ≡ many)

back_submits : (P : ℕ → Option Sent → Type 0) (tag : List ℕ) (number mailbox : ℕ) (copies words : List ℕ) → SubmitsSo P tag number (taking_back mailbox copies (says words))
back_submits P tag number mailbox [] words = tt
back_submits P tag number mailbox (uid ∷ uids) words = tt

showing_submits : (P : ℕ → Option Sent → Type 0) (tag : List ℕ) (number : ℕ) (selected : Option Selected) (words : List ℕ) → SubmitsSo P tag number (showing selected (says words))
showing_submits P tag number None words = tt
showing_submits P tag number (Some s) words = tt

told_submits : (P : ℕ → Option Sent → Type 0) (tag : List ℕ) (number : ℕ) (selected : Option Selected) (by_uid moves : Bool) (uids : List ℕ) (left : List Row) (copies : List ℕ) (uidvalidity : ℕ)
    → SubmitsSo P tag number (told_copied selected (record { by_uid = by_uid; moves = moves; uids = uids; left = left; copies = copies }) uidvalidity)
told_submits P tag number None by_uid true uids left copies uidvalidity = tt
told_submits P tag number (Some s) by_uid true uids left copies uidvalidity = tt
told_submits P tag number selected by_uid false uids left copies uidvalidity =
    showing_submits P tag number selected (copied_words uidvalidity (record { by_uid = by_uid; moves = false; uids = uids; left = left; copies = copies }))

next_submits : (tag : List ℕ) (mailing : Mailing) (batch : Batch) (mailbox : ℕ) (row : Row) (left : List Row) (many : ℕ) → length left + 1 ≡ many → SubmitsSo (FollowsFew many) tag mailing.number (submitted mailing batch mailbox row left)
unfolding FollowsFew
next_submits tag mailing batch mailbox row left many e = of (nat_le last_number mailing.number)
  where
    of : (spent : Bool) → SubmitsSo (FollowsFew many) tag mailing.number (if spent then taking_back mailbox batch.copies (says (response_text texts.MailboxSpent)) else ex.Wait [] (ForVerdict (Copied (record batch { left = left })) mailbox row.flags row.text))
    of true = back_submits (FollowsFew many) tag mailing.number mailbox batch.copies (response_text texts.MailboxSpent)
    of false = inr e

first_submits : (tag : List ℕ) (mailing : Mailing) (batch : Batch) (mailbox : ℕ) (done : Exchange) (left : List Row) → SubmitsSo (FollowsFew (length left)) tag mailing.number done
    → SubmitsSo (FollowsFew (length left)) tag mailing.number (submitting_first mailing batch mailbox done left)
first_submits tag mailing batch mailbox done [] d = d
first_submits tag mailing batch mailbox done (row ∷ left) d = next_submits tag mailing batch mailbox row left (length (row ∷ left)) (omega arith)

verdict_submits : (tag : List ℕ) (mailing : Mailing) (selected : Option Selected) (sent : Sent) (mailbox : ℕ) (verdict : Verdict)
    → SubmitsSo (FollowsFew (to_follow (Some sent))) tag mailing.number (on_verdict mailing selected sent.origin mailbox verdict)
verdict_submits tag mailing selected sent mailbox verdict = of sent.origin verdict
  where
    of : (origin : Origin) (verdict : Verdict) → SubmitsSo (FollowsFew (to_follow (Some (record sent { origin = origin })))) tag mailing.number (on_verdict mailing selected origin mailbox verdict)
    of Client (verdicts.Stored uid) = λ status. showing_submits (FollowsFew 0) tag mailing.number selected (appended_words status.uidvalidity uid)
    of Client (verdicts.Refused why) = tt
    of (Copied batch) (verdicts.Stored uid) =
        first_submits tag mailing (with_copy uid batch) mailbox (with_validity mailbox (told_copied selected (with_copy uid batch))) batch.left
        (λ status. told_submits (FollowsFew (length batch.left)) tag mailing.number selected batch.by_uid batch.moves batch.uids batch.left (batch.copies ++ uid ∷ []) status.uidvalidity)
    of (Copied batch) (verdicts.Refused why) = back_submits (FollowsFew (length batch.left)) tag mailing.number mailbox batch.copies (response_text (refused_text why))

turn_follows : (now : Standing) (old sent : Option Sent) (verdict : Verdict) (answers : List Answer) (turn : Turn) → turn_with sent now verdict answers ≡ Some turn → old ≡ sent → Follows old turn.standing.mailing.sent
unfolding FollowsFew
turn_follows now old None verdict answers turn e o = absurd (let x : None ≡ Some turn = e in cc)
turn_follows now old (Some sent) verdict answers turn e o =
    let P : ℕ → Option Sent → Type 0 = FollowsFew (to_follow (Some sent)) in
    let x : Exchange = on_verdict now.mailing now.selected sent.origin sent.append.mailbox verdict in
    let led : TurnHas P (Some turn) = subst (TurnHas P) e (played_has P sent.tag (without_sent now) x answers (inl refl) (verdict_submits sent.tag now.mailing now.selected sent sent.append.mailbox verdict)) in
    subst (λ (y : Option Sent). Follows y turn.standing.mailing.sent) (sym o) led

-- wherever a verdict was answered, it is so
pub verdict_follows : {S : Type 0} (step : S → Call → Answer → S → Type 0) (now : Standing) (verdict : Verdict) (old new : S) (before after : List ℕ) (how : After) (next : Standing)
    → AnswersVerdict step now verdict old new before after how next → Follows now.mailing.sent next.mailing.sent
verdict_follows step now verdict old new before after how next a = turn_follows now now.mailing.sent now.mailing.sent verdict a.answers _ a.played refl
