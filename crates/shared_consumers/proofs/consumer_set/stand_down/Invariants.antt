use Rattle.std.proofs.Common.{◌≡◌, ◌≤◌, ◌+◌, [], All, length, vec_len, vec_capacity}
use Rattle.shared_consumers.proofs.consumer_set.stand_down.Given as goal

abbrev pub invariant-loop-done : goal.invariant-loop-done
invariant-loop-done g l =
    (vec_len l.shared_consumers + l.done ≡ length l.shared.intake.lanes.items)
    × (vec_len l.rooms + l.done ≡ length l.shared.intake.lanes.items)
    × All (λ v. (v.items ≡ []) × (length l.shared.delivery.channels.items ≤ vec_capacity v)) l.rooms.items
    × (vec_len l.stands ≡ l.done) × (length l.shared.intake.lanes.items ≤ vec_capacity l.stands)
    × All (λ s. (vec_len s.stall.senders ≡ length l.shared.delivery.channels.items) × (s.room.items ≡ [])) l.stands.items
