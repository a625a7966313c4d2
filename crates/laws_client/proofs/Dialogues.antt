-- No text that a connection submits is longer than its limit and the line before it.
use Rattle.std.proofs.Common.{◌≡◌, ℕ, ◌+◌, ◌≤◌, Bool, true, false, ◌==◌, List, [], ◌∷◌, ◌++◌, length, refl, sym, subst, arith, length-append}
use Rattle.std.specs.Prelude.{Result, Ok, Err, codes, nat_lt, ◌||◌, if◌then◌else◌}
use Rattle.std.specs.List.{list_all, list_any}
use Rattle.std.proofs.lemmas.Bool.{false≢true}
use Rattle.std.proofs.lemmas.Bool.Decides.{nat_tests}
use Rattle.line_io.specs.Wire.{crlf}
use Rattle.delivery_token.specs.declared.Verdict.{Verdict}
use Rattle.dot_stuffing.specs.declared.Outcome.{Outcome}
use Rattle.dot_stuffing.specs.declared.Outcome.TheVariants as outcomes
use Rattle.envelope.specs.Names.{Directory, is_shut, lookup, shard_of}
use Rattle.envelope.specs.Grammar.{Form, Plain, Mail, Rcpt, Line as Line_form, Reads, has_long_part, is_body, is_too_long, judged}
use Rattle.envelope.proofs.Law.{reads}
use Rattle.envelope.specs.Reading.{read}
use Rattle.envelope.specs.Values.{Path, Null, Postmaster, To, Command}
use Rattle.envelope.specs.Values as say
use Rattle.envelope.specs.declared.command.CommandFault.{CommandFault}
use Rattle.envelope.specs.declared.command.CommandFault.TheVariants.{PathTooLong, Parameter}
use Rattle.envelope.specs.declared.directory.NoSuch.{NoSuch}
use Rattle.envelope.specs.declared.directory.NoSuch.TheVariants.{System, User}
use Rattle.lmtp_machine.specs.declared.reply.Reply.{Reply}
use Rattle.lmtp_machine.specs.declared.reply.Reply.TheVariants.{LineTooLong, ShardClosed, TooManyRecipients, RecipientOk, ShuttingDown, SenderOk}
use Rattle.lmtp_machine.specs.Message.{outcome, plain, sender_text, stored_text}
use Rattle.lmtp_machine.specs.Dialogue.{Phase, Start, Ready, Transaction, Data, Waiting, Ended, Standing, Setting, Submission, Event, Opened, Line, Starved, Answered, Shut, Turn, turn, dialogue, last_number, cleared, is_dot, on_event, on_mail, on_recipient, on_rcpt, on_data, on_command, on_reading, on_command_line, on_outcome, at_end, on_data_line, on_line, on_starved, on_verdicts, fault_reply}
use Rattle.imap_session.specs.Commands.{most_return_path}

-- ---- a sender

abbrev pub most_sender : ℕ
most_sender = 320

both_false : (a b : Bool) → (a || b) ≡ false → (a ≡ false) × (b ≡ false)
both_false false b h = (refl, h)
both_false true b h = absurd (false≢true (sym h))

pub not_over : (a b : ℕ) → nat_lt a b ≡ false → b ≤ a
not_over a b h = grind (arith, nat_tests)

sender_short : (path : Path) → has_long_part path ≡ false → length (sender_text path) ≤ most_sender
sender_short Null h = omega arith
sender_short Postmaster h = omega arith
sender_short (To address) h =
    let parts = both_false (nat_lt 64 (length address.local)) (nat_lt 255 (length address.domain)) h in
    omega (
      arith,
      not_over 64 (length address.local) parts.0,
      not_over 255 (length address.domain) parts.1,
      length-append (address.local ++ codes "@") address.domain,
      length-append address.local (codes "@"),
    )

abbrev IsShortPath : Result Command CommandFault → Type 0
IsShortPath (Ok (say.Mail path)) = length (sender_text path) ≤ most_sender
IsShortPath r = Unit {0}

form_short : (form : Form) (line : List ℕ) → Line_form form line → IsShortPath (judged form)
form_short (Plain (say.Mail path)) line is = absurd is
form_short (Plain _) line is = tt
form_short (Mail spelled path words) line is = by (is_too_long spelled path) (list_all is_body words) refl
  where
    by : (a b : Bool) → is_too_long spelled path ≡ a → IsShortPath (if a then Err PathTooLong else if b then Ok (say.Mail path) else Err Parameter)
    by true b e = tt
    by false true e = sender_short path (both_false (nat_lt 256 (length spelled)) (has_long_part path) e).1
    by false false e = tt
form_short (Rcpt spelled path words) line is = by (is_too_long spelled path) (length words == 0)
  where
    by : (a b : Bool) → IsShortPath (if a then Err PathTooLong else if b then Ok (say.Rcpt path) else Err Parameter)
    by true b = tt
    by false true = tt
    by false false = tt

result_short : (line : List ℕ) (r : Result Command CommandFault) → Reads line r → IsShortPath r
result_short line (Ok command) (form, is, e) = subst IsShortPath e (form_short form line is)
result_short line (Err fault) is = tt

read_short : (line : List ℕ) → IsShortPath (read line)
read_short line = result_short line (read line) (reads line)

-- ---- one event

abbrev pub IsSenderShort : Phase → Type 0
IsSenderShort Start = Unit {0}
IsSenderShort Ready = Unit {0}
IsSenderShort (Transaction sender recipients) = length sender ≤ most_sender
IsSenderShort (Data sender recipients lines) = length sender ≤ most_sender
IsSenderShort (Waiting count) = Unit {0}
IsSenderShort Ended = Unit {0}

abbrev pub AreTextsShort : ℕ → List Submission → Type 0
AreTextsShort limit [] = Unit {0}
AreTextsShort limit (s ∷ ss) = (length s.text.bytes ≤ limit + most_return_path) × AreTextsShort limit ss

pub record Fine (setting : Setting) (t : Turn) : Type 0 where
  pub sender : IsSenderShort t.standing.phase
  pub texts : AreTextsShort setting.max_message t.submissions

quiet : (setting : Setting) (phase : Phase) (n : ℕ) (replies : List Reply) → IsSenderShort phase → Fine setting (turn phase n replies)
quiet setting phase n replies h = record { sender = h; texts = tt }

mail_fine : (setting : Setting) (phase : Phase) (n : ℕ) (path : Path) → length (sender_text path) ≤ most_sender → IsSenderShort phase → Fine setting (on_mail phase n path)
mail_fine setting Start n path few h = quiet setting Start n _ h
mail_fine setting (Transaction sender recipients) n path few h = quiet setting (Transaction sender recipients) n _ h
mail_fine setting (Data sender recipients lines) n path few h = quiet setting (Data sender recipients lines) n _ h
mail_fine setting (Waiting count) n path few h = quiet setting (Waiting count) n _ h
mail_fine setting Ended n path few h = quiet setting Ended n _ h
mail_fine setting Ready n path few h = by (n == last_number)
  where
    by : (b : Bool) → Fine setting (if b then turn Ended n (ShuttingDown ∷ []) else turn (Transaction (sender_text path) []) n (SenderOk ∷ []))
    by true = quiet setting Ended n _ tt
    by false = quiet setting (Transaction (sender_text path) []) n _ few

recipient_fine : (setting : Setting) (directory : Directory) (sender recipients : List ℕ) (n : ℕ) (r : Result ℕ NoSuch) → length sender ≤ most_sender → Fine setting (on_recipient directory sender recipients n r)
recipient_fine setting directory sender recipients n (Err System) h = quiet setting (Transaction sender recipients) n _ h
recipient_fine setting directory sender recipients n (Err User) h = quiet setting (Transaction sender recipients) n _ h
recipient_fine setting directory sender recipients n (Ok mailbox) h = by (is_shut directory (shard_of directory mailbox)) (length recipients == 100)
  where
    by : (a b : Bool) → Fine setting (if a then turn (Transaction sender recipients) n (ShardClosed ∷ [])
        else if b then turn (Transaction sender recipients) n (TooManyRecipients ∷ []) else turn (Transaction sender (recipients ++ mailbox ∷ [])) n (RecipientOk ∷ []))
    by true b = quiet setting (Transaction sender recipients) n _ h
    by false true = quiet setting (Transaction sender recipients) n _ h
    by false false = quiet setting (Transaction sender (recipients ++ mailbox ∷ [])) n _ h

rcpt_fine : (setting : Setting) (directory : Directory) (phase : Phase) (n : ℕ) (path : Path) → IsSenderShort phase → Fine setting (on_rcpt directory phase n path)
rcpt_fine setting directory Start n path h = quiet setting Start n _ h
rcpt_fine setting directory Ready n path h = quiet setting Ready n _ h
rcpt_fine setting directory (Transaction sender recipients) n path h = recipient_fine setting directory sender recipients n (lookup directory path) h
rcpt_fine setting directory (Data sender recipients lines) n path h = quiet setting (Data sender recipients lines) n _ h
rcpt_fine setting directory (Waiting count) n path h = quiet setting (Waiting count) n _ h
rcpt_fine setting directory Ended n path h = quiet setting Ended n _ h

data_fine : (setting : Setting) (phase : Phase) (n : ℕ) → IsSenderShort phase → Fine setting (on_data phase n)
data_fine setting Start n h = quiet setting Start n _ h
data_fine setting Ready n h = quiet setting Ready n _ h
data_fine setting (Transaction sender []) n h = quiet setting (Transaction sender []) n _ h
data_fine setting (Transaction sender (mailbox ∷ more)) n h = quiet setting (Data sender (mailbox ∷ more) []) n _ h
data_fine setting (Data sender recipients lines) n h = quiet setting (Data sender recipients lines) n _ h
data_fine setting (Waiting count) n h = quiet setting (Waiting count) n _ h
data_fine setting Ended n h = quiet setting Ended n _ h

cleared_short : (phase : Phase) → IsSenderShort (cleared phase)
cleared_short Start = tt
cleared_short Ready = tt
cleared_short (Transaction sender recipients) = tt
cleared_short (Data sender recipients lines) = tt
cleared_short (Waiting count) = tt
cleared_short Ended = tt

command_fine : (setting : Setting) (directory : Directory) (phase : Phase) (n : ℕ) (command : Command) → IsShortPath (Ok command) → IsSenderShort phase → Fine setting (on_command directory (record { phase = phase; submitted = n }) command)
command_fine setting directory phase n say.Lhlo few h = quiet setting Ready n _ tt
command_fine setting directory phase n (say.Mail path) few h = mail_fine setting phase n path few h
command_fine setting directory phase n (say.Rcpt path) few h = rcpt_fine setting directory phase n path h
command_fine setting directory phase n say.Data few h = data_fine setting phase n h
command_fine setting directory phase n say.Rset few h = quiet setting (cleared phase) n _ (cleared_short phase)
command_fine setting directory phase n say.Noop few h = quiet setting phase n _ h
command_fine setting directory phase n say.Vrfy few h = quiet setting phase n _ h
command_fine setting directory phase n say.Quit few h = quiet setting Ended n _ tt
command_fine setting directory phase n say.Expn few h = quiet setting phase n _ h
command_fine setting directory phase n say.Help few h = quiet setting phase n _ h

reading_fine : (setting : Setting) (directory : Directory) (phase : Phase) (n : ℕ) (r : Result Command CommandFault) → IsShortPath r → IsSenderShort phase → Fine setting (on_reading directory (record { phase = phase; submitted = n }) r)
reading_fine setting directory phase n (Ok command) few h = command_fine setting directory phase n command few h
reading_fine setting directory phase n (Err fault) few h = quiet setting phase n (fault_reply fault ∷ []) h

command_line_fine : (setting : Setting) (directory : Directory) (phase : Phase) (n : ℕ) (line : List ℕ) → IsSenderShort phase → Fine setting (on_command_line directory (record { phase = phase; submitted = n }) line)
command_line_fine setting directory phase n line h = by (nat_lt 510 (length line))
  where
    by : (b : Bool) → Fine setting (if b then turn phase n (LineTooLong ∷ []) else on_reading directory (record { phase = phase; submitted = n }) (read line))
    by true = quiet setting phase n (LineTooLong ∷ []) h
    by false = reading_fine setting directory phase n (read line) (read_short line) h

-- ---- the end of data

stored_length : (sender : List ℕ) (lines : List (List ℕ)) → length (stored_text sender lines) ≡ 17 + length sender + length (plain lines)
stored_length sender lines =
    let a = length-append (codes "Return-Path: <" ++ sender ++ codes ">" ++ crlf) (plain lines) in
    let b = length-append (codes "Return-Path: <" ++ sender ++ codes ">") crlf in
    let c = length-append (codes "Return-Path: <" ++ sender) (codes ">") in
    let d = length-append (codes "Return-Path: <") sender in
    omega (arith, a, b, c, d)

outcome_fine : (setting : Setting) (n : ℕ) (sender recipients : List ℕ) (lines : List (List ℕ)) (o : Outcome) → length sender ≤ most_sender → (o ≡ outcomes.Ok → length (plain lines) ≤ setting.max_message)
    → Fine setting (on_outcome setting n sender recipients lines o)
outcome_fine setting n sender recipients lines outcomes.TooBig h few = record { sender = tt; texts = tt }
outcome_fine setting n sender recipients lines outcomes.Nul h few = record { sender = tt; texts = tt }
outcome_fine setting n sender recipients lines outcomes.NoMemory h few = record { sender = tt; texts = tt }
outcome_fine setting n sender recipients lines outcomes.Ok h few = record { sender = tt; texts = (omega (arith, h, few refl, stored_length sender lines), tt) }

nul_not_ok : outcomes.Nul ≡ outcomes.Ok → ⊥
nul_not_ok e = cc

big_not_ok : outcomes.TooBig ≡ outcomes.Ok → ⊥
big_not_ok e = cc

outcome_few : (limit : ℕ) (refused : Bool) (text : List ℕ) → outcome limit refused text ≡ outcomes.Ok → length text ≤ limit
outcome_few limit refused text h = by (list_any (λ b. b == 0) text) (nat_lt limit (length text)) refl h
  where
    by : (a b : Bool) → nat_lt limit (length text) ≡ b → (if a then outcomes.Nul else if b then outcomes.TooBig else if refused then outcomes.NoMemory else outcomes.Ok) ≡ outcomes.Ok → length text ≤ limit
    by true b e k = absurd (nul_not_ok k)
    by false true e k = absurd (big_not_ok k)
    by false false e k = not_over limit (length text) e

end_fine : (setting : Setting) (refused : Bool) (n : ℕ) (sender recipients : List ℕ) (lines : List (List ℕ)) → length sender ≤ most_sender → Fine setting (at_end setting refused n sender recipients lines)
end_fine setting refused n sender recipients lines h =
    outcome_fine setting n sender recipients lines (outcome setting.max_message refused (plain lines)) h (outcome_few setting.max_message refused (plain lines))

data_line_fine : (setting : Setting) (n : ℕ) (sender recipients : List ℕ) (lines : List (List ℕ)) (line : List ℕ) → length sender ≤ most_sender → Fine setting (on_data_line setting n sender recipients lines line)
data_line_fine setting n sender recipients lines line h = by (is_dot line)
  where
    by : (b : Bool) → Fine setting (if b then at_end setting false n sender recipients lines else turn (Data sender recipients (lines ++ line ∷ [])) n [])
    by true = end_fine setting false n sender recipients lines h
    by false = quiet setting (Data sender recipients (lines ++ line ∷ [])) n [] h

-- ---- events

line_fine : (setting : Setting) (directory : Directory) (phase : Phase) (n : ℕ) (line : List ℕ) → IsSenderShort phase → Fine setting (on_line setting directory phase n line)
line_fine setting directory Start n line h = command_line_fine setting directory Start n line h
line_fine setting directory Ready n line h = command_line_fine setting directory Ready n line h
line_fine setting directory (Transaction sender recipients) n line h = command_line_fine setting directory (Transaction sender recipients) n line h
line_fine setting directory (Data sender recipients lines) n line h = data_line_fine setting n sender recipients lines line h
line_fine setting directory (Waiting count) n line h = quiet setting (Waiting count) n [] h
line_fine setting directory Ended n line h = quiet setting Ended n [] h

starved_fine : (setting : Setting) (phase : Phase) (n : ℕ) → IsSenderShort phase → Fine setting (on_starved setting phase n)
starved_fine setting Start n h = quiet setting Start n [] h
starved_fine setting Ready n h = quiet setting Ready n [] h
starved_fine setting (Transaction sender recipients) n h = quiet setting (Transaction sender recipients) n [] h
starved_fine setting (Data sender recipients lines) n h = end_fine setting true n sender recipients lines h
starved_fine setting (Waiting count) n h = quiet setting (Waiting count) n [] h
starved_fine setting Ended n h = quiet setting Ended n [] h

verdicts_fine : (setting : Setting) (phase : Phase) (n : ℕ) (verdicts : List Verdict) → IsSenderShort phase → Fine setting (on_verdicts phase n verdicts)
verdicts_fine setting Start n verdicts h = quiet setting Start n [] h
verdicts_fine setting Ready n verdicts h = quiet setting Ready n [] h
verdicts_fine setting (Transaction sender recipients) n verdicts h = quiet setting (Transaction sender recipients) n [] h
verdicts_fine setting (Data sender recipients lines) n verdicts h = quiet setting (Data sender recipients lines) n [] h
verdicts_fine setting (Waiting count) n verdicts h = quiet setting Ready n _ tt
verdicts_fine setting Ended n verdicts h = quiet setting Ended n [] h

pub event_fine : (setting : Setting) (directory : Directory) (s : Standing) (e : Event) → IsSenderShort s.phase → Fine setting (on_event setting directory s e)
event_fine setting directory s Opened h = quiet setting s.phase s.submitted _ h
event_fine setting directory s (Line line) h = line_fine setting directory s.phase s.submitted line h
event_fine setting directory s Starved h = starved_fine setting s.phase s.submitted h
event_fine setting directory s (Answered verdicts) h = verdicts_fine setting s.phase s.submitted verdicts h
event_fine setting directory s Shut h = quiet setting Ended s.submitted _ tt

texts_append : (limit : ℕ) (xs ys : List Submission) → AreTextsShort limit xs → AreTextsShort limit ys → AreTextsShort limit (xs ++ ys)
texts_append limit [] ys h k = k
texts_append limit (x ∷ xs) ys h k = (h.0, texts_append limit xs ys h.1 k)

pub dialogue_fine : (setting : Setting) (directory : Directory) (s : Standing) (events : List Event) → IsSenderShort s.phase → Fine setting (dialogue setting directory s events)
dialogue_fine setting directory s [] h = quiet setting s.phase s.submitted [] h
dialogue_fine setting directory s (e ∷ es) h =
    let first : Turn = on_event setting directory s e in
    let f : Fine setting first = event_fine setting directory s e h in
    let others : Turn = dialogue setting directory first.standing es in
    let k : Fine setting others = dialogue_fine setting directory first.standing es f.sender in
    record { sender = k.sender; texts = texts_append setting.max_message first.submissions others.submissions f.texts k.texts }
