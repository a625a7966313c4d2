use Rattle.std.proofs.Common.{◌≡◌, ◌≤◌, ◌+◌, All, map, vec_len, vec_capacity}
use Rattle.std.specs.Mem.{manually_drop_value}
use Rattle.lane_work.specs.LanePermits.{EndedRows}
use Rattle.tests_threads.specs.inner.Rounds.{AreSomeones}
use Rattle.tests_threads.specs.declared.tests.rounds.Left.{Left}
use Rattle.tests_threads.proofs.tests.rounds.collect_all.Given as goal

abbrev pub invariant-loop-parcel : goal.invariant-loop-parcel
invariant-loop-parcel g l =
    All (λ x. AreSomeones l.shared.intake.lanes.items (manually_drop_value {X = Left _} x).ended.items) l.left.items
    × EndedRows l.shared.intake.lanes.items (map (λ v. v.items) l.lists.items)
    × All (λ v. vec_len v + vec_len l.left ≤ vec_capacity v) l.lists.items
    × (vec_len l.receivers + vec_len l.left ≤ vec_capacity l.receivers)
    × (vec_len l.receivers + vec_len l.left ≡ vec_len l.fn.receivers + vec_len l.fn.left)

abbrev pub decreases-loop-parcel : goal.decreases-loop-parcel
decreases-loop-parcel g l = goal.left-loop-parcel g l
