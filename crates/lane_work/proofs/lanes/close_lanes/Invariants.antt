use Rattle.std.proofs.Common.{◌≡◌, ◌≤◌, ◌+◌, ◌++◌, List, map, true, false, vec_len, vec_capacity}
use Rattle.shard_queue.specs.declared.permits.ClosedLane.{ClosedLane}
use Rattle.lane_work.specs.SharedLanes.{AreConsumers, EndedRows, AreClosed, IsTorn}
use Rattle.lane_work.proofs.lanes.close_lanes.Given as goal

abbrev pub invariant-loop : goal.invariant-loop
invariant-loop g l = let view = g.C.Carrier.view in let is_of = g.C.Carrier.is_of in
    (vec_len l.lanes + l.counter ≡ l.end) × (vec_len l.closed + vec_len l.lanes ≤ vec_capacity l.closed)
    × EndedRows view is_of l.lanes.items (map (λ v. v.items) l.ended.items) × AreConsumers view is_of l.lanes.items l.consumers.items
    × (l.torn ≡ false → (more : List (ClosedLane g.row.C-Pass.Denot)) → AreClosed view (λ lane. g.C.Carrier.room lane.carrier) l.lanes.items (map (λ v. v.items) l.ended.items) l.consumers.items more
    → AreClosed view (λ lane. g.C.Carrier.room lane.carrier) l.fn.lanes.items (map (λ v. v.items) l.fn.ended.items) l.fn.consumers.items (l.closed.items ++ more))
    × (l.torn ≡ true → IsTorn view l.fn.lanes.items (map (λ v. v.items) l.fn.ended.items) l.fn.consumers.items)
    × (IsTorn view l.lanes.items (map (λ v. v.items) l.ended.items) l.consumers.items → IsTorn view l.fn.lanes.items (map (λ v. v.items) l.fn.ended.items) l.fn.consumers.items)
