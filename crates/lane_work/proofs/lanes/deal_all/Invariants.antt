use Rattle.std.proofs.Common.{◌≡◌, ◌≤◌, ◌+◌, [], All, length, map, vec_len, vec_capacity}
use Rattle.lane_work.specs.SharedLanes.{AreHands, Rows}
use Rattle.lane_work.proofs.StepLaws.{list}
use Rattle.lane_work.proofs.lanes.deal_all.Given as goal

abbrev pub invariant-loop-number : goal.invariant-loop-number
invariant-loop-number g l =
    (vec_len l.rooms + l.number ≡ l.producers) × All (λ v. (v.items ≡ []) × (length l.lanes ≤ vec_capacity v)) l.rooms.items
    × (vec_len l.hands ≡ l.number) × (l.producers ≤ vec_capacity l.hands)
    × Rows g.C.Carrier.view g.C.Carrier.is_of l.lanes l.number (map list l.permits.items)
    × AreHands g.C.Carrier.view g.C.Carrier.is_of g.H.Held.held l.lanes 0 (map list l.hands.items)
