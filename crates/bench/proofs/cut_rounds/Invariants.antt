use Rattle.std.proofs.Common.{◌≤◌}
use Rattle.bench.proofs.cut_rounds.Given as goal

abbrev pub invariant-loop : goal.invariant-loop
invariant-loop l = l.found ≤ l.counter
