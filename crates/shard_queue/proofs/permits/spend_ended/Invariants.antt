use Rattle.std.specs.Prelude.{⊤}
use Rattle.shard_queue.proofs.permits.spend_ended.Given as goal

abbrev pub invariant-loop-one : goal.invariant-loop-one
invariant-loop-one g l = ⊤

abbrev pub decreases-loop-one : goal.decreases-loop-one
decreases-loop-one g l = goal.left-loop-one g l
