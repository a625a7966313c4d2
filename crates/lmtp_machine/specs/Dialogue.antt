-- The server's side of an LMTP connection (RFC 2033), line by line. It knows nothing of pieces and buffers. The texts of its replies
-- stand here too.
use Rattle.std.specs.Prelude.{ℕ, Bool, true, false, List, [], ◌∷◌, ◌++◌, ◌+◌, ◌-◌, ◌^◌, length, map, replicate, Result, Ok, Err, nat_lt, ◌==◌, if◌then◌else◌, codes}
use Rattle.envelope.specs.Values.{Path, Command}
use Rattle.envelope.specs.Reading.{read}
use Rattle.envelope.specs.Names.{Directory, is_shut, lookup, shard_of}
use Rattle.envelope.specs.declared.command.CommandFault.{CommandFault}
use Rattle.envelope.specs.declared.directory.NoSuch.{NoSuch}
use Rattle.envelope.specs.declared.directory.NoSuch.TheVariants.{System, User}
use Rattle.delivery_token.specs.Text.{Text, undated}
use Rattle.delivery_token.specs.declared.CopyKey.{CopyKey}
use Rattle.delivery_token.specs.declared.Verdict.{Verdict}
use Rattle.delivery_token.specs.declared.Verdict.TheVariants.{Stored, Refused}
use Rattle.delivery_token.specs.declared.Refusal.{Refusal}
use Rattle.lmtp_machine.specs.declared.reply.Reply.{Reply}
use Rattle.lmtp_machine.specs.declared.reply.Reply.TheVariants.{Greeting, LineTooLong, CommandUnknown, NotImplemented, BadClientName, InvalidArguments, PathTooLong, ParameterUnknown, BadSequence, Extensions, SenderOk, DomainUnknown, MailboxUnknown, TooManyRecipients, RecipientOk, StartInput, Okay, CannotVerify, Bye, ShuttingDown, Delivered, ShardFull, ShardClosed, MailboxFull, OutOfMemory, NoUidLeft, MessageTooBig, NulByte}
use Rattle.dot_stuffing.specs.declared.Outcome.{Outcome}
use Rattle.lmtp_machine.specs.Message.{sender_text, stored_text, plain, outcome}
use Rattle.std.specs.List.{flat_map}
use Rattle.line_io.specs.Wire.{crlf}
use Rattle.envelope.specs.Values as say
use Rattle.envelope.specs.declared.command.CommandFault.TheVariants as faults
use Rattle.delivery_token.specs.declared.Refusal.TheVariants as refusals
use Rattle.dot_stuffing.specs.declared.Outcome.TheVariants as outcomes

-- ---- where a dialogue stands

pub data Phase : Type 0 where
  -- before LHLO
  Start : Phase
  -- between transactions
  Ready : Phase
  -- MAIL was accepted: its mailbox as spelled or nothing, and the mailboxes of the accepted recipients
  Transaction : List ℕ → List ℕ → Phase
  -- DATA was accepted: these lines came since
  Data : List ℕ → List ℕ → List (List ℕ) → Phase
  -- a message was submitted for so many recipients, and the verdicts are awaited
  Waiting : ℕ → Phase
  Ended : Phase

-- the phase, and how many messages were submitted
pub record Standing : Type 0 where
  pub phase : Phase
  pub submitted : ℕ

-- whose connection it is, and its limit
pub record Setting : Type 0 where
  pub seat : ℕ
  pub serial : ℕ
  pub max_message : ℕ

-- a message for its recipients: the i-th key and the i-th mailbox are those of the i-th accepted recipient
pub record Submission : Type 0 where
  pub keys : List CopyKey
  pub mailboxes : List ℕ
  pub text : Text

-- what happens on a connection
pub data Event : Type 0 where
  -- it was opened
  Opened : Event
  -- a whole line came
  Line : List ℕ → Event
  -- the line that ends the data came, but memory for the text had been refused
  Starved : Event
  -- the verdicts on the submitted message are known, one for each recipient
  Answered : List Verdict → Event
  -- the server shuts down
  Shut : Event

-- what an event leads to
pub record Turn : Type 0 where
  pub standing : Standing
  pub replies : List Reply
  pub submissions : List Submission

-- ---- turns

abbrev pub turn : Phase → ℕ → List Reply → Turn
turn phase submitted replies = record {
  standing = record { phase = phase; submitted = submitted };
  replies = replies;
  submissions = [];
}

-- the reply, and all stays as it is
abbrev pub refuse : Standing → Reply → Turn
refuse s reply = turn s.phase s.submitted (reply ∷ [])

-- between commands, whatever was begun is dropped
abbrev pub cleared : Phase → Phase
cleared Start = Start
cleared _ = Ready

abbrev pub last_number : ℕ
last_number = 2 ^ 32 - 1

abbrev pub on_mail : Phase → ℕ → Path → Turn
on_mail Ready n path =
    if n == last_number then turn Ended n (ShuttingDown ∷ []) else turn (Transaction (sender_text path) []) n (SenderOk ∷ [])
on_mail phase n path = turn phase n (BadSequence ∷ [])

module _ (directory : Directory) (sender recipients : List ℕ) where
  abbrev pub on_recipient : ℕ → Result ℕ NoSuch → Turn
  on_recipient n (Err System) = turn (Transaction sender recipients) n (DomainUnknown ∷ [])
  on_recipient n (Err User) = turn (Transaction sender recipients) n (MailboxUnknown ∷ [])
  on_recipient n (Ok mailbox) =
      if is_shut directory (shard_of directory mailbox)
      then turn (Transaction sender recipients) n (ShardClosed ∷ [])
      else if length recipients == 100
      then turn (Transaction sender recipients) n (TooManyRecipients ∷ [])
      else turn (Transaction sender (recipients ++ mailbox ∷ [])) n (RecipientOk ∷ [])

abbrev pub on_rcpt : Directory → Phase → ℕ → Path → Turn
on_rcpt directory (Transaction sender recipients) n path = on_recipient directory sender recipients n (lookup directory path)
on_rcpt directory phase n path = turn phase n (BadSequence ∷ [])

abbrev pub on_data : Phase → ℕ → Turn
on_data (Transaction sender (mailbox ∷ more)) n = turn (Data sender (mailbox ∷ more) []) n (StartInput ∷ [])
on_data phase n = turn phase n (BadSequence ∷ [])

abbrev pub on_command : Directory → Standing → Command → Turn
on_command directory s say.Lhlo = turn Ready s.submitted (Extensions ∷ [])
on_command directory s (say.Mail path) = on_mail s.phase s.submitted path
on_command directory s (say.Rcpt path) = on_rcpt directory s.phase s.submitted path
on_command directory s say.Data = on_data s.phase s.submitted
on_command directory s say.Rset = turn (cleared s.phase) s.submitted (Okay ∷ [])
on_command directory s say.Noop = refuse s Okay
on_command directory s say.Vrfy = refuse s CannotVerify
on_command directory s say.Quit = turn Ended s.submitted (Bye ∷ [])
on_command directory s say.Expn = refuse s NotImplemented
on_command directory s say.Help = refuse s NotImplemented

abbrev pub fault_reply : CommandFault → Reply
fault_reply faults.Unknown = CommandUnknown
fault_reply (faults.Syntax true) = BadClientName
fault_reply (faults.Syntax false) = InvalidArguments
fault_reply faults.PathTooLong = PathTooLong
fault_reply faults.Parameter = ParameterUnknown

abbrev pub on_reading : Directory → Standing → Result Command CommandFault → Turn
on_reading directory s (Ok command) = on_command directory s command
on_reading directory s (Err fault) = refuse s (fault_reply fault)

-- a command line, of 512 bytes with its CRLF at most
abbrev pub on_command_line : Directory → Standing → List ℕ → Turn
on_command_line directory s line =
    if nat_lt 510 (length line) then refuse s LineTooLong else on_reading directory s (read line)

-- ---- the end of the data

-- the keys of this message's copies, from this recipient on
abbrev pub keys_from : Setting → ℕ → ℕ → List ℕ → List CopyKey
keys_from setting message i [] = []
keys_from setting message i (mailbox ∷ mailboxes) =
    record { seat = setting.seat; serial = setting.serial; message = message; recipient = i } ∷ keys_from setting message (i + 1) mailboxes

-- one reply for each recipient, and the transaction is over
abbrev pub failed : ℕ → List ℕ → Reply → Turn
failed n recipients reply = turn Ready n (replicate (length recipients) reply)

module _ (setting : Setting) (n : ℕ) (sender recipients : List ℕ) where
  abbrev pub on_outcome : List (List ℕ) → Outcome → Turn
  on_outcome lines outcomes.TooBig = failed n recipients MessageTooBig
  on_outcome lines outcomes.Nul = failed n recipients NulByte
  on_outcome lines outcomes.NoMemory = failed n recipients OutOfMemory
  on_outcome lines outcomes.Ok = record {
    standing = record { phase = Waiting (length recipients); submitted = n + 1 };
    replies = [];
    submissions = record {
      keys = keys_from setting n 0 recipients;
      mailboxes = recipients;
      text = undated (stored_text sender lines);
    } ∷ [];
  }

module _ (setting : Setting) (refused : Bool) where
  abbrev pub at_end : ℕ → List ℕ → List ℕ → List (List ℕ) → Turn
  at_end n sender recipients lines =
      on_outcome setting n sender recipients lines (outcome setting.max_message refused (plain lines))

abbrev pub is_dot : List ℕ → Bool
is_dot [] = false
is_dot (b ∷ []) = b == 46
is_dot (b ∷ c ∷ bs) = false

module _ (setting : Setting) (n : ℕ) (sender recipients : List ℕ) where
  abbrev pub on_data_line : List (List ℕ) → List ℕ → Turn
  on_data_line lines line =
      if is_dot line then at_end setting false n sender recipients lines
      else turn (Data sender recipients (lines ++ line ∷ [])) n []

-- ---- verdicts

abbrev pub refusal_reply : Refusal → Reply
refusal_reply refusals.Full = ShardFull
refusal_reply refusals.MailboxFull = MailboxFull
refusal_reply refusals.NoMemory = OutOfMemory
refusal_reply refusals.UidSpent = NoUidLeft
refusal_reply refusals.Shut = ShardClosed

abbrev pub verdict_reply : Verdict → Reply
verdict_reply (Stored uid) = Delivered
verdict_reply (Refused refusal) = refusal_reply refusal

-- ---- events

module _ (setting : Setting) (directory : Directory) where
  abbrev pub on_line : Phase → ℕ → List ℕ → Turn
  on_line Start n line = on_command_line directory (record { phase = Start; submitted = n }) line
  on_line Ready n line = on_command_line directory (record { phase = Ready; submitted = n }) line
  on_line (Transaction sender recipients) n line =
      on_command_line directory (record { phase = Transaction sender recipients; submitted = n }) line
  on_line (Data sender recipients lines) n line = on_data_line setting n sender recipients lines line
  on_line (Waiting count) n line = turn (Waiting count) n []
  on_line Ended n line = turn Ended n []

abbrev pub on_starved : Setting → Phase → ℕ → Turn
on_starved setting (Data sender recipients lines) n = at_end setting true n sender recipients lines
on_starved setting phase n = turn phase n []

abbrev pub on_verdicts : Phase → ℕ → List Verdict → Turn
on_verdicts (Waiting count) n verdicts = turn Ready n (map verdict_reply verdicts)
on_verdicts phase n verdicts = turn phase n []

abbrev pub on_event : Setting → Directory → Standing → Event → Turn
on_event setting directory s Opened = refuse s Greeting
on_event setting directory s (Line line) = on_line setting directory s.phase s.submitted line
on_event setting directory s Starved = on_starved setting s.phase s.submitted
on_event setting directory s (Answered verdicts) = on_verdicts s.phase s.submitted verdicts
on_event setting directory s Shut = turn Ended s.submitted (ShuttingDown ∷ [])

-- ---- dialogues

abbrev pub fresh : Standing
fresh = record { phase = Start; submitted = 0 }

-- where events lead, with all that is said and submitted on the way
abbrev pub dialogue : Setting → Directory → Standing → List Event → Turn
dialogue setting directory s [] = turn s.phase s.submitted []
dialogue setting directory s (event ∷ events) =
    let first = on_event setting directory s event in
    let others = dialogue setting directory first.standing events in
    record {
      standing = others.standing;
      replies = first.replies ++ others.replies;
      submissions = first.submissions ++ others.submissions;
    }

-- ---- the texts of the replies (RFC 5321, 4.2; RFC 2034; RFC 3463)

-- a reply of a server of this name, without the CRLF of its last line
abbrev pub reply_text : List ℕ → Reply → List ℕ
reply_text host Greeting = codes "220 " ++ host ++ codes " LMTP ready"
reply_text host LineTooLong = codes "500 5.5.2 Line too long"
reply_text host CommandUnknown = codes "500 5.5.1 Command unknown"
reply_text host NotImplemented = codes "502 5.5.1 Command not implemented"
reply_text host BadClientName = codes "501 Invalid arguments"
reply_text host InvalidArguments = codes "501 5.5.4 Invalid arguments"
reply_text host PathTooLong = codes "501 5.5.2 Path too long"
reply_text host ParameterUnknown = codes "555 5.5.4 Parameter not recognised"
reply_text host BadSequence = codes "503 5.5.1 Bad sequence of commands"
reply_text host Extensions =
    codes "250-" ++ host ++ crlf ++ codes "250-PIPELINING" ++ crlf ++ codes "250-ENHANCEDSTATUSCODES" ++ crlf ++ codes "250 8BITMIME"
reply_text host SenderOk = codes "250 2.1.0 Sender OK"
reply_text host DomainUnknown = codes "550 5.1.2 Domain unknown"
reply_text host MailboxUnknown = codes "550 5.1.1 Mailbox unknown"
reply_text host TooManyRecipients = codes "452 4.5.3 Too many recipients"
reply_text host RecipientOk = codes "250 2.1.5 Recipient OK"
reply_text host StartInput = codes "354 Start mail input"
reply_text host Okay = codes "250 2.0.0 OK"
reply_text host CannotVerify = codes "252 2.0.0 Cannot verify"
reply_text host Bye = codes "221 2.0.0 Bye"
reply_text host ShuttingDown = codes "421 4.3.2 Shutting down"
reply_text host Delivered = codes "250 2.1.5 Delivered"
reply_text host ShardFull = codes "452 4.3.1 Shard full"
reply_text host ShardClosed = codes "450 4.2.1 Shard closed"
reply_text host MailboxFull = codes "452 4.2.2 Mailbox full"
reply_text host OutOfMemory = codes "451 4.3.0 Out of memory"
reply_text host NoUidLeft = codes "554 5.2.0 No UID left"
reply_text host MessageTooBig = codes "552 5.3.4 Message too big"
reply_text host NulByte = codes "554 5.6.0 NUL byte"

-- the reply doesn't name the server
abbrev pub IsBrief : Reply → Type 0
IsBrief Greeting = ⊥
IsBrief Extensions = ⊥
IsBrief _ = Unit {0}

-- replies as they stand on the wire
abbrev pub wire : List ℕ → List Reply → List ℕ
wire host replies = flat_map (λ reply. reply_text host reply ++ crlf) replies
