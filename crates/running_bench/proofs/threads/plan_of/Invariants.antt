use Rattle.std.proofs.Common.{◌≡◌, length}
use Rattle.running_bench.proofs.threads.plan_of.Given as goal

abbrev pub invariant-loop-worker : goal.invariant-loop-worker
invariant-loop-worker l = length l.all.items ≡ l.worker
