use Rattle.std.proofs.Common.{length, ◌-◌, ◌≤◌}
use Rattle.bench.proofs.work.lines_in.Given as goal

abbrev pub invariant-loop-used : goal.invariant-loop-used
invariant-loop-used l = record {
  within : l.used ≤ length l.piece;
  lines : l.lines ≤ l.used;
}

abbrev pub decreases-loop-used : goal.decreases-loop-used
decreases-loop-used l = length l.piece - l.used
