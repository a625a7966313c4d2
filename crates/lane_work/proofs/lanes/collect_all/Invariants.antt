use Rattle.std.proofs.Common.{◌≡◌, ◌≤◌, ◌+◌, All, map, vec_len, vec_capacity}
use Rattle.lane_work.specs.SharedLanes.{with_all}
use Rattle.lane_work.proofs.StepLaws.{list}
use Rattle.lane_work.proofs.lanes.collect_all.Given as goal

abbrev pub invariant-loop : goal.invariant-loop
invariant-loop g l =
    (vec_len l.hands + l.counter ≡ vec_len l.fn.hands) × (vec_len l.lists ≡ vec_len l.fn.lists)
    × All (λ v. vec_len v ≡ vec_len l.fn.lists) l.hands.items
    × All (λ v. vec_len v + vec_len l.hands ≤ vec_capacity v) l.lists.items
    × (with_all (map list l.lists.items) (map list l.hands.items) ≡ with_all (map list l.fn.lists.items) (map list l.fn.hands.items))
