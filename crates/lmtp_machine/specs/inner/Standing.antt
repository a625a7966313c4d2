-- What bodies and proofs say besides: what the fields of a connection between commands stand for.
use Rattle.std.specs.Prelude.{ℕ, ◌<◌}
use Rattle.lmtp_machine.specs.declared.commands.Stage.{Stage}
use Rattle.lmtp_machine.specs.declared.commands.Stage.TheVariants as stages
use Rattle.lmtp_machine.specs.Dialogue.{Transaction, Data, last_number}

-- a message that may be submitted has a number
abbrev pub HasNumber : Stage → ℕ → Type 0
HasNumber stages.Transaction submitted = submitted < last_number
HasNumber stages.Data submitted = submitted < last_number
HasNumber _ submitted = Unit {0}
