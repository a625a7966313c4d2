-- How many replies a line has.
use Rattle.std.proofs.Common.{◌≡◌, ℕ, Bool, true, false, ◌==◌, List, [], ◌∷◌, ◌++◌, length, zero, suc, refl, ap, inl, inr}
use Rattle.std.specs.Prelude.{Result, Ok, Err, nat_lt, replicate, if◌then◌else◌}
use Rattle.dot_stuffing.specs.declared.Outcome.{Outcome}
use Rattle.dot_stuffing.specs.declared.Outcome.TheVariants as outcomes
use Rattle.envelope.specs.Names.{Directory, is_shut, lookup, shard_of}
use Rattle.envelope.specs.Reading.{read}
use Rattle.envelope.specs.Values.{Path, Command}
use Rattle.envelope.specs.Values as say
use Rattle.envelope.specs.declared.command.CommandFault.{CommandFault}
use Rattle.envelope.specs.declared.directory.NoSuch.{NoSuch}
use Rattle.envelope.specs.declared.directory.NoSuch.TheVariants.{System, User}
use Rattle.lmtp_machine.specs.declared.reply.Reply.{Reply}
use Rattle.lmtp_machine.specs.declared.reply.Reply.TheVariants.{LineTooLong, RecipientOk, SenderOk, ShardClosed, ShuttingDown, TooManyRecipients}
use Rattle.lmtp_machine.specs.declared.reply.Reply.TheVariants as replies
use Rattle.lmtp_machine.specs.Message.{outcome, plain, sender_text}
use Rattle.lmtp_machine.specs.Dialogue.{Phase, Start, Ready, Transaction, Data, Waiting, Ended, Setting, Standing, Turn, turn, refuse, at_end, is_dot, last_number, on_command, on_command_line, on_data, on_data_line, on_line, on_mail, on_outcome, on_rcpt, on_reading, on_recipient}
use Rattle.laws_relay.specs.ReplyLaws.{AreAnswered, TakesCommands}

abbrev HasOne : Turn → Type 0
HasOne t = length t.replies ≡ 1

either_one : (b : Bool) (x y : Turn) → HasOne x → HasOne y → HasOne (if b then x else y)
either_one true x y p q = p
either_one false x y p q = q

mail_one : (phase : Phase) (n : ℕ) (path : Path) → HasOne (on_mail phase n path)
mail_one Start n path = refl
mail_one Ready n path = either_one (n == last_number) (turn Ended n (ShuttingDown ∷ [])) (turn (Transaction (sender_text path) []) n (SenderOk ∷ [])) refl refl
mail_one (Transaction sender recipients) n path = refl
mail_one (Data sender recipients lines) n path = refl
mail_one (Waiting count) n path = refl
mail_one Ended n path = refl

room_one : (sender recipients : List ℕ) (n mailbox : ℕ)
    → HasOne (if length recipients == 100 then turn (Transaction sender recipients) n (TooManyRecipients ∷ []) else turn (Transaction sender (recipients ++ mailbox ∷ [])) n (RecipientOk ∷ []))
room_one sender recipients n mailbox =
    either_one (length recipients == 100) (turn (Transaction sender recipients) n (TooManyRecipients ∷ [])) (turn (Transaction sender (recipients ++ mailbox ∷ [])) n (RecipientOk ∷ [])) refl refl

recipient_one : (directory : Directory) (sender recipients : List ℕ) (n : ℕ) (found : Result ℕ NoSuch) → HasOne (on_recipient directory sender recipients n found)
recipient_one directory sender recipients n (Err System) = refl
recipient_one directory sender recipients n (Err User) = refl
recipient_one directory sender recipients n (Ok mailbox) =
    either_one (is_shut directory (shard_of directory mailbox)) (turn (Transaction sender recipients) n (ShardClosed ∷ []))
    (if length recipients == 100 then turn (Transaction sender recipients) n (TooManyRecipients ∷ []) else turn (Transaction sender (recipients ++ mailbox ∷ [])) n (RecipientOk ∷ [])) refl (room_one sender recipients n mailbox)

rcpt_one : (directory : Directory) (phase : Phase) (n : ℕ) (path : Path) → HasOne (on_rcpt directory phase n path)
rcpt_one directory Start n path = refl
rcpt_one directory Ready n path = refl
rcpt_one directory (Transaction sender recipients) n path = recipient_one directory sender recipients n (lookup directory path)
rcpt_one directory (Data sender recipients lines) n path = refl
rcpt_one directory (Waiting count) n path = refl
rcpt_one directory Ended n path = refl

data_one : (phase : Phase) (n : ℕ) → HasOne (on_data phase n)
data_one (Transaction sender (mailbox ∷ more)) n = refl
data_one _ n = refl

command_one : (directory : Directory) (s : Standing) (command : Command) → HasOne (on_command directory s command)
command_one directory s (say.Mail path) = mail_one s.phase s.submitted path
command_one directory s (say.Rcpt path) = rcpt_one directory s.phase s.submitted path
command_one directory s say.Data = data_one s.phase s.submitted
command_one directory s _ = refl

reading_one : (directory : Directory) (s : Standing) (r : Result Command CommandFault) → HasOne (on_reading directory s r)
reading_one directory s (Ok command) = command_one directory s command
reading_one directory s (Err fault) = refl

line_one : (directory : Directory) (s : Standing) (line : List ℕ) → HasOne (on_command_line directory s line)
line_one directory s line = either_one (nat_lt 510 (length line)) (refuse s LineTooLong) (on_reading directory s (read line)) refl (reading_one directory s (read line))

pub commands_have_one_reply : (setting : Setting) (directory : Directory) (phase : Phase) (n : ℕ) (line : List ℕ) → TakesCommands phase
    → length (on_line setting directory phase n line).replies ≡ 1
commands_have_one_reply setting directory Start n line h = line_one directory (record { phase = Start; submitted = n }) line
commands_have_one_reply setting directory Ready n line h = line_one directory (record { phase = Ready; submitted = n }) line
commands_have_one_reply setting directory (Transaction sender recipients) n line h = line_one directory (record { phase = Transaction sender recipients; submitted = n }) line
commands_have_one_reply setting directory (Data sender recipients lines) n line h = absurd h
commands_have_one_reply setting directory (Waiting count) n line h = absurd h
commands_have_one_reply setting directory Ended n line h = absurd h

-- ---- data

as_many : (n : ℕ) (reply : Reply) → length (replicate n reply) ≡ n
as_many zero reply = refl
as_many (suc n) reply = ap suc (as_many n reply)

outcome_answers : (setting : Setting) (n : ℕ) (sender recipients : List ℕ) (lines : List (List ℕ)) (how : Outcome) → AreAnswered (length recipients) (on_outcome setting n sender recipients lines how)
outcome_answers setting n sender recipients lines outcomes.TooBig = inr (as_many (length recipients) replies.MessageTooBig, refl)
outcome_answers setting n sender recipients lines outcomes.Nul = inr (as_many (length recipients) replies.NulByte, refl)
outcome_answers setting n sender recipients lines outcomes.NoMemory = inr (as_many (length recipients) replies.OutOfMemory, refl)
outcome_answers setting n sender recipients lines outcomes.Ok = inl (refl, refl)

pub end_answers : (setting : Setting) (refused : Bool) (n : ℕ) (sender recipients : List ℕ) (lines : List (List ℕ)) → AreAnswered (length recipients) (at_end setting refused n sender recipients lines)
end_answers setting refused n sender recipients lines = outcome_answers setting n sender recipients lines (outcome setting.max_message refused (plain lines))

pub dot_answers : (setting : Setting) (n : ℕ) (sender recipients : List ℕ) (lines : List (List ℕ)) (line : List ℕ) → is_dot line ≡ true
    → AreAnswered (length recipients) (on_data_line setting n sender recipients lines line)
dot_answers setting n sender recipients lines line h = rw h (end_answers setting false n sender recipients lines)

pub data_is_silent : (setting : Setting) (n : ℕ) (sender recipients : List ℕ) (lines : List (List ℕ)) (line : List ℕ) → is_dot line ≡ false
    → (on_data_line setting n sender recipients lines line).replies ≡ []
data_is_silent setting n sender recipients lines line h = rw h refl
