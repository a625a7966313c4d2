use Rattle.std.proofs.Common.{◌≡◌, ◌≤◌, ◌+◌, [], All, true, false, length, vec_len, vec_capacity}
use Rattle.house_shared.specs.Crew.{AllAt}
use Rattle.shared_consumers.specs.ConsumerSet.{IsService}
use Rattle.shared_consumers.proofs.consumer_set.dismiss_all.Given as goal

abbrev pub invariant-loop-position : goal.invariant-loop-position
invariant-loop-position g l =
    (vec_len l.shared_consumers + l.position ≡ length l.shared.intake.lanes.items)
    × (vec_len l.rooms + l.position ≡ length l.shared.intake.lanes.items)
    × All (λ v. (v.items ≡ []) × (length l.shared.delivery.channels.items ≤ vec_capacity v)) l.rooms.items
    × (vec_len l.consumed ≡ l.position) × (length l.shared.intake.lanes.items ≤ vec_capacity l.consumed)
    × (l.in_order ≡ true → AllAt (IsService l.shared.intake.lanes.items l.shared.delivery) 0 l.consumed.items)
    × All (λ c. vec_len c.senders ≡ length l.shared.delivery.channels.items) l.consumed.items
    × All (λ c. (c.taken.items ≡ []) × (c.kept ≡ false)) l.consumed.items
