use Rattle.std.proofs.Common.{◌≡◌, ◌≤◌, ◌+◌, length, vec_len, vec_capacity}
use Rattle.house_shared.specs.Crew.{AllAt, IsStand}
use Rattle.running_house.specs.inner.Crew.{IsKept}
use Rattle.running_house.proofs.consumers.start_consumers.Given as goal

abbrev pub invariant-loop-position : goal.invariant-loop-position
invariant-loop-position g l =
    AllAt (IsStand l.common.shared.now) l.position l.stands.items × (vec_len l.stands + l.position ≡ length l.common.shared.now.intake.lanes.items)
    × AllAt (IsKept l.common.shared.now) 0 l.kept.items × (vec_len l.kept ≡ l.position) × (length l.common.shared.now.intake.lanes.items ≤ vec_capacity l.kept)
    × (l.first ≤ length l.common.shared.now.intake.lanes.items)
