use Rattle.std.proofs.Common.{◌≡◌, ◌≤◌}
use Rattle.shard_queue.specs.Closing.{IsAll}
use Rattle.shard_queue.specs.SharedLane.{taken, ended_number}
use Rattle.shard_queue.proofs.permits.SharedLane.are_all.Given as goal

abbrev pub invariant-loop-p : goal.invariant-loop-p
invariant-loop-p g l = (l.p ≤ l.p-end) × (l.p-end ≡ l.self.producers) × IsAll ended_number l.p l.ended (taken g.C.Carrier.view l.permit)
