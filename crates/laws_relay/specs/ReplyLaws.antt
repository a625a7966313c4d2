-- What holds of a relay that reads what a connection says.
use Rattle.std.specs.Prelude.{◌≡◌, ◌⊎◌, ℕ, Bool, true, false, List, [], ◌++◌, codes, length, map}
use Rattle.delivery_token.specs.declared.Verdict.{Verdict}
use Rattle.delivery_token.specs.declared.Verdict.TheVariants.{Stored, Refused}
use Rattle.envelope.specs.Names.{Directory}
use Rattle.lmtp_machine.specs.declared.reply.Reply.{Reply}
use Rattle.lmtp_machine.specs.declared.reply.Reply.TheVariants.{Extensions}
use Rattle.lmtp_machine.specs.Dialogue.{Phase, Start, Ready, Transaction, Data, Waiting, Setting, Turn, is_dot, on_line, on_starved, on_verdicts, verdict_reply, reply_text, wire}
use Rattle.laws_relay.specs.Handed.{IsInLine, is_code, replies_of}

-- the last line of a reply: all have one line but the answer to LHLO
abbrev pub last_line : List ℕ → Reply → List ℕ
last_line host Extensions = codes "250 8BITMIME"
last_line host reply = reply_text host reply

-- whatever replies were written, these are read, in their order
abbrev pub RepliesAreRead : Type 0
RepliesAreRead = (host : List ℕ) (replies : List Reply) → IsInLine host → replies_of (wire host replies) ≡ map (last_line host) replies

-- where what was told ends early, the first ones are read, and none that wasn't told whole
abbrev pub FrontsAreRead : Type 0
FrontsAreRead = (host : List ℕ) (replies : List Reply) (told untold : List ℕ) → IsInLine host → told ++ untold ≡ wire host replies
    → (more : List (List ℕ)) × (map (last_line host) replies ≡ replies_of told ++ more)

abbrev pub is_stored : Verdict → Bool
is_stored (Stored uid) = true
is_stored (Refused refusal) = false

-- among the replies to verdicts the code 250 is that of a copy that is stored, and of no other
abbrev pub DeliveredAloneIsTaken : Type 0
DeliveredAloneIsTaken = (host : List ℕ) (verdict : Verdict) → is_code (codes "250") (last_line host (verdict_reply verdict)) ≡ is_stored verdict

-- ---- how many replies are due

-- lines that come now are commands
abbrev pub TakesCommands : Phase → Type 0
TakesCommands Start = Unit {0}
TakesCommands Ready = Unit {0}
TakesCommands (Transaction sender recipients) = Unit {0}
TakesCommands _ = ⊥

-- a command has one reply, whatever it is
abbrev pub CommandsHaveOneReply : Type 0
CommandsHaveOneReply = (setting : Setting) (directory : Directory) (phase : Phase) (submitted : ℕ) (line : List ℕ) → TakesCommands phase
    → length (on_line setting directory phase submitted line).replies ≡ 1

-- So many recipients are answered: none yet, and so many verdicts are awaited; or each at once, and the next line is a command.
abbrev pub AreAnswered : ℕ → Turn → Type 0
AreAnswered recipients turn =
    ((turn.replies ≡ []) × (turn.standing.phase ≡ Waiting recipients)) ⊎ ((length turn.replies ≡ recipients) × (turn.standing.phase ≡ Ready))

-- A line of data has no reply; the dot that ends it is answered for each recipient,
-- also where memory was refused to the text; and each verdict has one reply.
abbrev pub DataHasItsReplies : Type 0
DataHasItsReplies = (setting : Setting) (directory : Directory) (sender mailboxes : List ℕ) (lines : List (List ℕ)) (submitted : ℕ)
    → ((line : List ℕ) → is_dot line ≡ false → (on_line setting directory (Data sender mailboxes lines) submitted line).replies ≡ [])
    × ((line : List ℕ) → is_dot line ≡ true → AreAnswered (length mailboxes) (on_line setting directory (Data sender mailboxes lines) submitted line))
    × AreAnswered (length mailboxes) (on_starved setting (Data sender mailboxes lines) submitted)
    × ((verdicts : List Verdict) → (on_verdicts (Waiting (length mailboxes)) submitted verdicts).replies ≡ map verdict_reply verdicts)
