-- What a command line comes to, and what becomes of a message at the end of its data, as the fields of the connection show it.
use Rattle.std.specs.Prelude.{◌≡◌, ℕ, List, ◌++◌}
use Rattle.dot_stuffing.specs.declared.Outcome.{Outcome}
use Rattle.dot_stuffing.specs.declared.Outcome.TheVariants as outcomes
use Rattle.lmtp_machine.specs.declared.commands.Stage.{Stage}
use Rattle.lmtp_machine.specs.declared.commands.Stage.TheVariants as stages
use Rattle.lmtp_machine.specs.declared.connection.What.{What}
use Rattle.lmtp_machine.specs.declared.connection.What.TheVariants.{More, Quit}
use Rattle.lmtp_machine.specs.Dialogue.{wire, Turn}
use Rattle.lmtp_machine.specs.Standing.{standing_of}
use Rattle.lmtp_machine.specs.LmtpMachine.{LmtpMachine}
use Rattle.lmtp_machine.specs.Calls.{Tells}

-- what a command line came to, by where the connection is after it
abbrev pub what_of : Stage → What
what_of stages.Ended = Quit
what_of _ = More

-- the outcome stays, or memory is refused for the message of a text that was in order
pub data Becomes (outcome final : Outcome) : Type 0 where
  so : final ≡ outcome → Becomes outcome final
  starved : outcome ≡ outcomes.Ok → final ≡ outcomes.NoMemory → Becomes outcome final

-- neither data nor the end
abbrev pub IsBetween : Stage → Type 0
IsBetween stages.Start = Unit {0}
IsBetween stages.Ready = Unit {0}
IsBetween stages.Transaction = Unit {0}
IsBetween stages.Data = ⊥
IsBetween stages.Waiting = Unit {0}
IsBetween stages.Ended = ⊥

-- The turn was done: the connection stands where it leads, and said and submitted what it says.
pub record Does (before : LmtpMachine) (turn : Turn) (after : LmtpMachine) (what : What) (old new : List ℕ) : Type 0 where
  pub cutter : after.cutter ≡ before.cutter
  pub unstuffer : after.unstuffer ≡ before.unstuffer
  pub stage : IsBetween after.commands.stage
  pub standing : standing_of after.commands ≡ turn.standing
  pub pending : after.pending ≡ turn.submissions
  pub said : new ≡ old ++ wire before.host turn.replies
  pub tells : Tells what turn
