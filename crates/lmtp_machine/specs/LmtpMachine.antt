-- What an LMTP machine is seen as, and the conversations for which it stands.
use Rattle.std.specs.Prelude.{◌≡◌, ℕ, Bool, true, false, ◌<◌, List, [], ◌++◌, length, All}
use Rattle.line_io.specs.Wire.{IsUncut, joined}
use Rattle.line_io.specs.Cutting.{LineCutter}
use Rattle.line_io.specs.Cutting.{StandsFor as HasTaken}
use Rattle.dot_stuffing.specs.Unstuffing.{IsBehind, Unstuffer}
use Rattle.dot_stuffing.specs.Unstuffing.{StandsFor as HasUnstuffed}
use Rattle.lmtp_machine.specs.declared.commands.Stage.{Stage}
use Rattle.lmtp_machine.specs.declared.commands.Stage.TheVariants as stages
use Rattle.lmtp_machine.specs.Message.{return_path}
use Rattle.lmtp_machine.specs.Standing.{Commands, standing_of}
use Rattle.lmtp_machine.specs.Dialogue.{Phase, Start, Ready, Transaction, Data, Waiting, Ended, Setting, Submission}
use Rattle.lmtp_machine.specs.Conversation.{Conversation}

pub record LmtpMachine : Type 0 where
  pub setting : Setting
  pub host : List ℕ
  -- the message whose verdicts are awaited, if there is one
  pub pending : List Submission
  -- where it is in the dialogue, but for the lines of data
  pub commands : Commands
  -- what cuts the command lines
  pub cutter : LineCutter
  -- what takes the data
  pub unstuffer : Unstuffer

-- between commands, what has come of the next line is with the cutter, and nothing of data has come
pub record BetweenLines (m : LmtpMachine) (c : Conversation) : Type 0 where
  pub standing : c.standing ≡ standing_of m.commands
  pub cutter : HasTaken m.cutter c.unfinished
  pub unstuffer : HasUnstuffed m.unstuffer []

-- within data, all that has come of it is with the unstuffer, behind the line that says who sent it, and nothing is with the cutter
pub record WithinData (m : LmtpMachine) (c : Conversation) : Type 0 where
  pub lines : List (List ℕ)
  pub each : All IsUncut lines
  pub some : 0 < length m.commands.recipients
  pub phase : c.standing.phase ≡ Data m.commands.sender m.commands.recipients lines
  pub submitted : c.standing.submitted ≡ m.commands.submitted
  pub cutter : HasTaken m.cutter []
  pub unstuffer : HasUnstuffed m.unstuffer (joined lines ++ c.unfinished)
  pub behind : IsBehind m.unstuffer.collected (return_path m.commands.sender)

abbrev pub IsHere : Stage → LmtpMachine → Conversation → Type 0
IsHere stages.Data m c = WithinData m c
IsHere stages.Ended m c = c.standing ≡ standing_of m.commands
IsHere _ m c = BetweenLines m c

-- the bytes so far may have led to this conversation
pub record StandsFor (m : LmtpMachine) (c : Conversation) : Type 0 where
  pub open_end : IsUncut c.unfinished
  pub here : IsHere m.commands.stage m c

-- within a message's data, which has begun and not ended
abbrev pub is_data : Phase → Bool
is_data Start = false
is_data Ready = false
is_data (Transaction sender recipients) = false
is_data (Data sender recipients lines) = true
is_data (Waiting count) = false
is_data Ended = false
