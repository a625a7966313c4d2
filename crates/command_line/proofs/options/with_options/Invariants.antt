use Rattle.std.proofs.Common.{take}
use Rattle.std.specs.Prelude.{map}
use Rattle.command_line.specs.inner.Words.{HasMore, rule_for}
use Rattle.command_line.proofs.options.with_options.Given as goal

abbrev pub invariant-loop-index : goal.invariant-loop-index
invariant-loop-index l = HasMore (map rule_for (take l.index l.options)) l.fn.subcommand l.subcommand
