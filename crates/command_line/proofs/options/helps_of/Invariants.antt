use Rattle.std.proofs.Common.{◌≡◌, length}
use Rattle.command_line.proofs.options.helps_of.Given as goal

abbrev pub invariant-loop-option : goal.invariant-loop-option
invariant-loop-option l = length l.helps.items ≡ l.option-index
