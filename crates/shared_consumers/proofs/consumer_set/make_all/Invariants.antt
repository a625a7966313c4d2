use Rattle.std.proofs.Common.{◌≡◌, ◌≤◌, ◌+◌, [], All, length, vec_len, vec_capacity}
use Rattle.house_shared.specs.Crew.{AllAt, IsStand}
use Rattle.shared_consumers.proofs.consumer_set.make_all.Given as goal

abbrev pub invariant-loop-position : goal.invariant-loop-position
invariant-loop-position g l =
    (vec_len l.stands + l.position ≡ length l.shared.intake.lanes.items)
    × AllAt (IsStand l.shared) l.position l.stands.items
    × (vec_len l.consumer_set.shared_consumers ≡ l.position) × (length l.shared.intake.lanes.items ≤ vec_capacity l.consumer_set.shared_consumers)
    × (vec_len l.consumer_set.rooms ≡ l.position) × (length l.shared.intake.lanes.items ≤ vec_capacity l.consumer_set.rooms)
    × All (λ v. (v.items ≡ []) × (length l.shared.delivery.channels.items ≤ vec_capacity v)) l.consumer_set.rooms.items
    × (l.consumer_set.stands ≡ l.fn.consumer_set.stands)
