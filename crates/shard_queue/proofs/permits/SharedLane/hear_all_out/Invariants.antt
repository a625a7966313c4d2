use Rattle.std.proofs.Common.{◌≡◌, All}
use Rattle.shard_queue.specs.Lane.{of}
use Rattle.shard_queue.specs.Shared.{list_of}
use Rattle.shard_queue.specs.Closing.{HasAllEnds}
use Rattle.shard_queue.specs.SharedLane.{IsEndedPermit, said}
use Rattle.shard_queue.proofs.ClosingLaws.{IsBehind}
use Rattle.shard_queue.proofs.permits.SharedLane.hear_all_out.Given as goal

abbrev pub invariant-loop-e : goal.invariant-loop-e
invariant-loop-e g l = let view = g.C.Carrier.view in
    g.C.Carrier.is_of l.self.carrier l.pass × HasAllEnds l.self.producers (view l.pass) × (list_of (view l.pass) ≡ list_of (view l.fn.pass))
    × All (IsEndedPermit view g.C.Carrier.is_of l.self) l.ended.items
    × IsBehind (λ e. said view e ≡ of e.number (list_of (view l.fn.pass))) l.ended.items l.fn.ended.items

abbrev pub decreases-loop-e : goal.decreases-loop-e
decreases-loop-e g l = goal.left-loop-e g l
