use Rattle.std.proofs.Common.{◌≡◌, ◌≤◌, ◌+◌, [], All, length, map, vec_len, vec_capacity}
use Rattle.lane_work.specs.LanePermits.{AreEndedHands, AreHands}
use Rattle.lane_work.proofs.StepLaws.{list}
use Rattle.tests_threads.proofs.tests.lanes.end_hands.Given as goal

abbrev pub invariant-loop-number : goal.invariant-loop-number
invariant-loop-number g l =
    (vec_len l.hands + l.number ≡ l.producers) × AreHands l.lanes l.number (map list l.hands.items)
    × (vec_len l.each + l.number ≡ l.producers) × All (λ v. (v.items ≡ []) × (length l.lanes ≤ vec_capacity v)) l.each.items
    × (vec_len l.all ≡ l.number) × (l.producers ≤ vec_capacity l.all) × All (λ v. vec_len v ≡ length l.lanes) l.all.items
    × AreEndedHands l.lanes 0 (map list l.all.items)
