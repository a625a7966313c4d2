-- No text that a session submits is longer than the most that it takes: by induction over the exchange, a clause for each answer that there is.
use Rattle.std.proofs.Common.{◌≡◌, ℕ, ◌+◌, ◌-◌, ◌≤◌, Bool, true, false, List, ◌∷◌, length, ap, subst, sym, ◌∙◌, arith, length-append, inl, inr, []}
use Rattle.std.specs.Prelude.{Option, Some, None, IfSome, Result, Ok, Err, ◌==◌}
use Rattle.std.specs.Option.{option_map}
use Rattle.std.proofs.lemmas.Option.{none-some}
use Rattle.mailbox.specs.declared.clients.Row.{Row}
use Rattle.imap_grammar.specs.Reading.{read}
use Rattle.imap_grammar.specs.declared.command.Command.{Command}
use Rattle.imap_grammar.specs.declared.command.ImapFault.{ImapFault}
use Rattle.imap_session.specs.declared.standing.Selected.{Selected}
use Rattle.imap_session.specs.Exchange.{Answer, Exchange, ForDone, ForLiteral, ForVerdict, ForNothing, Mailing, Standing, Turn, PendingLiteral, Sent, Waiting, played, Asked, Dropped, Unasked, Origin, Client, Copied, Batch}
use Rattle.imap_session.specs.Commands.{completed, fault_text, idle_turn_in, is_over, kept_text, on_command, on_idle_line, on_read, on_rest, on_verdict, only_says, says, taking, turn_of, turn_of_long_line, turn_of_verdict, turn_with, with_bytes, without_begun, without_sent, logged_in, on_text_line, most_copied, most_return_path, on_stored, told_copied, with_copy, copies_of, refused_text}
use Rattle.delivery_token.specs.declared.Verdict.{Verdict}
use Rattle.delivery_token.specs.declared.Verdict.TheVariants as verdicts
use Rattle.laws_client.proofs.Turns.{the_turn}
use Rattle.laws_client.proofs.Dialogues.{not_over}
use Rattle.imap_session.specs.Texts.{response_text}
use Rattle.laws_client.proofs.Barred.{line_case}
use Rattle.imap_session.proofs.Parts.{text_line_has, IsPart, tells_part, ends_part, asks_part, comes_part, challenge_part}
use Rattle.laws_client.proofs.WholeLines.{turn_has}
use Rattle.exactly_once.proofs.Copying.{EachFits, TakesBack, back_so, stored_so}
use Rattle.laws_client.proofs.EachCommand.{Tells, append_so, command_so, copied_so, idle_line_so, rest_so, shows_so}
use Rattle.exactly_once.proofs.EachExchange.{idle_keeps}
use Rattle.laws_client.proofs.Waiting.{IsMail, TurnMail, WaitsAs, played_mail, wait_steps, waiting_mail, waits_told}
use Rattle.std.specs.List.{AllByRecursion}

-- each of these messages is no longer than that
abbrev pub RowsFit : ℕ → List Row → Type 0
RowsFit most rows = AllByRecursion (λ (row : Row). length row.text.bytes ≤ most + most_return_path) rows

-- nor are those that are left to be copied
abbrev pub OriginFits : ℕ → Origin → Type 0
OriginFits most Client = Unit {0}
OriginFits most (Copied batch) = RowsFit most batch.left

-- What it has of messages: of one that is announced no more than was, and of one that was submitted no more than it takes, and the line of a return path.
pub record IsMailShort (most : ℕ) (m : Mailing) : Type 0 where
  pub takes : m.most ≡ Some most
  pub begun : IfSome m.begun (λ a. IfSome a.text (λ text. length text + a.due ≤ a.size))
  pub sent : IfSome m.sent (λ sent. (length sent.append.text.bytes ≤ most + most_return_path) × OriginFits most sent.origin)

abbrev pub Kept : ℕ → Turn → Type 0
Kept most turn = IsMailShort most turn.standing.mailing

abbrev WaitFits : ℕ → Waiting → Type 0
WaitFits most (ForVerdict origin mailbox flags text) = (length text.bytes ≤ most + most_return_path) × OriginFits most origin
WaitFits most w = Unit {0}

-- wherever a message is submitted it is no longer than that
abbrev TextsFit : ℕ → Exchange → Type 0
TextsFit most x = WaitsAs (WaitFits most) x

fits_told : (most : ℕ) → Tells (TextsFit most)
fits_told most = waits_told (WaitFits most)

waiting_keeps : (most : ℕ) (tag : List ℕ) (m : Mailing) (w : Waiting) → WaitFits most w → IsMailShort most m → IsMailShort most (waiting_mail tag w m)
waiting_keeps most tag m ForDone p k = k
waiting_keeps most tag m (ForLiteral Asked purpose size) p k = record { takes = k.takes; begun = omega arith; sent = k.sent }
waiting_keeps most tag m (ForLiteral Unasked purpose size) p k = record { takes = k.takes; begun = omega arith; sent = k.sent }
waiting_keeps most tag m (ForLiteral Dropped purpose size) p k = record { takes = k.takes; begun = tt; sent = k.sent }
waiting_keeps most tag m (ForVerdict origin mailbox flags text) p k = record { takes = k.takes; begun = k.begun; sent = p }
waiting_keeps most tag m ForNothing p k = k

mail_stays : (most : ℕ) (tag : List ℕ) (now : Standing) (x : Exchange) (answers : List Answer) (turn : Turn) → TextsFit most x → IsMailShort most now.mailing → played tag now x answers ≡ Some turn → Kept most turn
mail_stays most tag now x answers turn p k e = by (subst (TurnMail (WaitFits most) tag now.mailing) e (played_mail (WaitFits most) (λ purpose size fits. tt) tag now x answers p))
  where
    by : IsMail (WaitFits most) tag now.mailing turn.standing.mailing → Kept most turn
    by (inl same) = subst (IsMailShort most) (sym same) k
    by (inr (w, fits, is)) = subst (IsMailShort most) (sym is) (waiting_keeps most tag now.mailing w fits k)

-- ---- exchanges

over_most : (most : ℕ) (o : Option ℕ) (size : ℕ) → o ≡ Some most → is_over o size ≡ false → size ≤ most
over_most most o size e h = not_over most size (sym (ap (λ (x : Option ℕ). is_over x size) e) ∙ h)

-- of a batch those that are left
rows_fit : (most : ℕ) (now : Standing) (rows : List Row) → now.mailing.most ≡ Some most → EachFits now rows → RowsFit most rows
rows_fit most now [] takes each = tt
rows_fit most now (row ∷ rows) takes each =
    (over_most (most + most_return_path) (most_copied now.mailing.most) (length row.text.bytes) (ap most_copied takes) each.0, rows_fit most now rows takes each.1)

fit_command : (most : ℕ) (tag : List ℕ) (now : Standing) (command : Command) → now.mailing.most ≡ Some most → TextsFit most (on_command tag now command)
fit_command most tag now command takes =
    command_so tag now command (λ view. TextsFit most)
    (wait_steps (WaitFits most) tag now command (λ is. tt) (λ append is. append_so (TextsFit most) (fits_told most) now.mailing.most now.folders append (λ mailbox named. tt) tt tt)
    (λ copy is batch mailbox row copied.
    (over_most (most + most_return_path) (most_copied now.mailing.most) (length row.text.bytes) (ap most_copied takes) copied.fits, rows_fit most now batch.left takes copied.others_fit))) []

-- ---- what stands behind a literal

fit_rest : (most : ℕ) (mailing : Mailing) (a : PendingLiteral) (empty : Bool) → mailing.most ≡ Some most → IfSome a.text (λ text. length text + a.due ≤ a.size) → TextsFit most (on_rest mailing a empty)
fit_rest most mailing a empty takes short = rest_so (TextsFit most) (fits_told most) mailing a empty
    (λ text mailbox is named whole fits.
    let few : length text + a.due ≤ a.size = subst (λ (o : Option (List ℕ)). IfSome o (λ t. length t + a.due ≤ a.size)) is short in
    (omega (arith, few, over_most most mailing.most a.size takes fits), tt))

fit_idle_line : (most : ℕ) (selected : Option Selected) (line : List ℕ) → TextsFit most (on_idle_line selected line)
fit_idle_line most selected line = idle_line_so (TextsFit most) selected line tt tt tt

fit_copied : (most : ℕ) (selected : Option Selected) (batch : Batch) (uidvalidity : ℕ) → TextsFit most (told_copied selected batch uidvalidity)
fit_copied most selected batch uidvalidity = copied_so (TextsFit most) selected batch uidvalidity tt tt (λ x p. p) tt (λ s. tt)

fit_back : (most : ℕ) → TakesBack (TextsFit most)
fit_back most = record { told = λ text. tt; removed = λ mailbox uids x p. p }

fit_stored : (most : ℕ) (mailing : Mailing) (selected : Option Selected) (origin : Origin) (mailbox uid : ℕ) → OriginFits most origin
    → TextsFit most (on_stored mailing selected origin mailbox uid)
fit_stored most mailing selected Client mailbox uid fits = λ status. shows_so (TextsFit most) selected _ tt tt
fit_stored most mailing selected (Copied batch) mailbox uid fits =
    stored_so (TextsFit most) (fit_back most) mailing selected batch mailbox uid (λ row left is. let each : RowsFit most (row ∷ left) = subst (RowsFit most) is fits in each)
    (λ none status. fit_copied most selected (with_copy uid batch) status.uidvalidity)

fit_verdict : (most : ℕ) (mailing : Mailing) (selected : Option Selected) (origin : Origin) (mailbox : ℕ) (verdict : Verdict) → OriginFits most origin
    → TextsFit most (on_verdict mailing selected origin mailbox verdict)
fit_verdict most mailing selected origin mailbox (verdicts.Stored uid) fits = fit_stored most mailing selected origin mailbox uid fits
fit_verdict most mailing selected origin mailbox (verdicts.Refused why) fits = back_so (TextsFit most) (fit_back most) mailbox (copies_of origin) (refused_text why)

-- ---- lines, literals and verdicts

fault_keeps : (most : ℕ) (now : Standing) (text : List ℕ) (answers : List Answer) (turn : Turn) → IsMailShort most now.mailing → only_says text now answers ≡ Some turn → Kept most turn
fault_keeps most now text [] turn k e = subst (λ (s : Turn). Kept most s) (ap (the_turn turn) e) k
fault_keeps most now text (answer ∷ more) turn k e = absurd (none-some turn e)

read_keeps : (most : ℕ) (now : Standing) (r : Result (List ℕ × Command) ImapFault) (answers : List Answer) (turn : Turn) → IsMailShort most now.mailing → on_read now r answers ≡ Some turn → Kept most turn
read_keeps most now (Ok line) answers turn k e =
    line_case (Kept most turn) now line.0 line.1 answers turn (λ logs d. mail_stays most line.0 (logged_in now) (completed line.1) answers turn tt k d)
    (λ text is d. mail_stays most line.0 now (says (response_text text)) answers turn tt k d) (λ d. mail_stays most line.0 now (on_command line.0 now line.1) answers turn (fit_command most line.0 now line.1 k.takes) k d) e
read_keeps most now (Err fault) answers turn k e = fault_keeps most now (fault_text now.profile fault) answers turn k e

-- a line that isn't whole yet, or is given up
fit_part : (most : ℕ) (x : Exchange) → IsPart x → TextsFit most x
fit_part most x (tells_part text h e) = subst (TextsFit most) (sym e) tt
fit_part most x (ends_part text h e) = subst (TextsFit most) (sym e) tt
fit_part most x (asks_part line size e) = subst (TextsFit most) (sym e) tt
fit_part most x (comes_part line size e) = subst (TextsFit most) (sym e) tt
fit_part most x (challenge_part line e) = subst (TextsFit most) (sym e) tt

text_keeps : (most : ℕ) (now : Standing) (line : List ℕ) (answers : List Answer) (turn : Turn) → IsMailShort most now.mailing → on_text_line now line answers ≡ Some turn → Kept most turn
text_keeps most now line answers turn k e =
    text_line_has (λ o. o ≡ Some turn → Kept most turn) now line answers (λ tag x part d. mail_stays most tag now x answers turn (fit_part most x part) k d) (λ d. read_keeps most now (read line) answers turn k d) e

none_begun : (most : ℕ) (now : Standing) → IsMailShort most now.mailing → IsMailShort most (without_begun now).mailing
none_begun most now k = record { takes = k.takes; begun = tt; sent = k.sent }

heard_keeps : (most : ℕ) (sent : Option Sent) (now : Standing) (verdict : Verdict) (answers : List Answer) (turn : Turn) → IsMailShort most now.mailing
    → IfSome sent (λ sent. (length sent.append.text.bytes ≤ most + most_return_path) × OriginFits most sent.origin) → turn_with sent now verdict answers ≡ Some turn → Kept most turn
heard_keeps most None now verdict answers turn k fits e = absurd (none-some turn e)
heard_keeps most (Some sent) now verdict answers turn k fits e =
    mail_stays most sent.tag (without_sent now) (on_verdict now.mailing now.selected sent.origin sent.append.mailbox verdict) answers turn
    (fit_verdict most now.mailing now.selected sent.origin sent.append.mailbox verdict fits.1) (record { takes = k.takes; begun = tt; sent = tt }) e

pub line_mail : (most : ℕ) (now : Standing) (line : List ℕ) (answers : List Answer) (turn : Turn) → IsMailShort most now.mailing → turn_of now line answers ≡ Some turn → Kept most turn
line_mail most now line answers turn k e =
    turn_has (λ whole o. o ≡ Some turn → Kept most turn) now line answers
    (λ tag b i d. mail_stays most tag (record now { idling = None }) (on_idle_line now.selected line) answers turn (fit_idle_line most now.selected line) k d)
    (λ a mailbox flags date b p d. mail_stays most a.tag (without_begun now) (on_rest now.mailing a (length line == 0)) answers turn (fit_rest most now.mailing a (length line == 0) k.takes (few a b)) (none_begun most now k) d)
    (λ a x b part d. mail_stays most a.tag (without_begun now) x answers turn (fit_part most x part) (none_begun most now k) d)
    (λ whole w d. text_keeps most (without_begun now) whole answers turn (none_begun most now k) d) e
  where
    few : (a : PendingLiteral) → now.mailing.begun ≡ Some a → IfSome a.text (λ text. length text + a.due ≤ a.size)
    few a b = subst (λ (o : Option PendingLiteral). IfSome o (λ x. IfSome x.text (λ text. length text + x.due ≤ x.size))) b k.begun

pub long_mail : (most : ℕ) (now : Standing) → IsMailShort most now.mailing → Kept most (turn_of_long_line now)
long_mail most now k = none_begun most now k

pub verdict_mail : (most : ℕ) (now : Standing) (verdict : Verdict) (answers : List Answer) (turn : Turn) → IsMailShort most now.mailing → turn_of_verdict now verdict answers ≡ Some turn → Kept most turn
verdict_mail most now verdict answers turn k e = heard_keeps most now.mailing.sent now verdict answers turn k k.sent e

-- bytes of the literal, no more than were due
pub bytes_mail : (most : ℕ) (now : Standing) (kept : Bool) (bytes : List ℕ) → IsMailShort most now.mailing → IfSome now.mailing.begun (λ a. length bytes ≤ a.due) → IsMailShort most (with_bytes kept bytes now).mailing
bytes_mail most now kept bytes k few = record { takes = k.takes; begun = by now.mailing.begun k.begun few; sent = k.sent }
  where
    text_with : (b : Bool) (a : PendingLiteral) (text : Option (List ℕ)) → IfSome text (λ t. length t + a.due ≤ a.size) → length bytes ≤ a.due
        → IfSome (kept_text b bytes text) (λ t. length t + (a.due - length bytes) ≤ a.size)
    text_with true a None h f = tt
    text_with true a (Some text) h f = omega (arith, h, f, length-append text bytes)
    text_with false a None h f = tt
    text_with false a (Some text) h f = tt

    by : (begun : Option PendingLiteral) → IfSome begun (λ a. IfSome a.text (λ text. length text + a.due ≤ a.size)) → IfSome begun (λ a. length bytes ≤ a.due)
        → IfSome (option_map (taking kept bytes) begun) (λ a. IfSome a.text (λ text. length text + a.due ≤ a.size))
    by None h f = tt
    by (Some a) h f = text_with kept a a.text h f

-- ---- turns while it idles

pub idle_mail : (most : ℕ) (selected : Option Selected) (idling : Bool) (now : Standing) (answers : List Answer) (turn : Turn) → IsMailShort most now.mailing → idle_turn_in selected idling now answers ≡ Some turn → Kept most turn
idle_mail most selected idling now answers turn k e = idle_keeps (λ (s : Standing). IsMailShort most s.mailing) selected idling now answers turn k k e
