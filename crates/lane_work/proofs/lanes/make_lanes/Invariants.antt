use Rattle.std.proofs.Common.{◌≡◌, ◌≤◌, [], All, length, map, take, vec_len, vec_capacity}
use Rattle.shard_queue.specs.SharedLane.{taken}
use Rattle.lane_work.specs.SharedLanes.{Rows, AreConsumers}
use Rattle.lane_work.proofs.lanes.make_lanes.Given as goal

abbrev pub invariant-loop-position : goal.invariant-loop-position
invariant-loop-position g l = let view = g.C.Carrier.view in let is_of = g.C.Carrier.is_of in
    (vec_len l.lanes.lanes ≡ l.position) × (vec_len l.lanes.permits ≡ l.position) × (vec_len l.lanes.consumers ≡ l.position)
    × (length l.rooms ≤ vec_capacity l.lanes.lanes) × (length l.rooms ≤ vec_capacity l.lanes.permits) × (length l.rooms ≤ vec_capacity l.lanes.consumers)
    × (map (λ lane. g.C.Carrier.room lane.carrier) l.lanes.lanes.items ≡ take l.position l.rooms)
    × All (λ lane. lane.producers ≡ l.producers) l.lanes.lanes.items
    × Rows view is_of l.lanes.lanes.items 0 (map (λ v. v.items) l.lanes.permits.items)
    × AreConsumers view is_of l.lanes.lanes.items l.lanes.consumers.items × All (λ s. taken view s ≡ []) l.lanes.consumers.items
