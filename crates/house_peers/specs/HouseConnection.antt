-- What a connection holds, as contracts see it.
use Rattle.std.specs.Prelude.{ℕ, Bool, List, Option}
use Rattle.delivery_token.specs.declared.Verdict.{Verdict}
use Rattle.lmtp_machine.specs.LmtpMachine.{LmtpMachine}

-- a connection: its serial, whether its peer is gone, its machine, the bytes that wait, the words that aren't printed yet, and of each copy that was
-- put the verdict, or None while it is awaited
pub record HouseConnection : Type 0 where
  pub serial : ℕ
  pub gone : Bool
  pub machine : LmtpMachine
  pub waits : List ℕ
  pub unsaid : List ℕ
  pub verdicts : List (Option Verdict)
