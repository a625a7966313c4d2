use Rattle.std.proofs.Common.{◌≡◌}
use Rattle.shard_queue.specs.SharedLane.{IsPermit, number_of, sent}
use Rattle.lane_work.proofs.ending.end_one.Given as goal

abbrev pub invariant-loop : goal.invariant-loop
invariant-loop g l = let view = g.C.Carrier.view in
    IsPermit view g.C.Carrier.is_of l.lane l.permit × (number_of l.permit ≡ number_of l.fn.permit) × (sent view l.permit ≡ sent view l.fn.permit)
