use Rattle.std.proofs.Common.{◌≡◌, ◌≤◌, ◌+◌, ◌*◌, [], All, length, vec_len, vec_capacity}
use Rattle.shard_queue.specs.Reply.{received}
use Rattle.shard_queue.specs.Reply as replies
use Rattle.house_shared.specs.Crew.{AllAt, IsPost}
use Rattle.house_shared.proofs.DealLaws.{IsConsumerAt, IsHand}
use Rattle.house_shared.proofs.dealing.set_posts.Given as goal

abbrev pub invariant-loop-number : goal.invariant-loop-number
invariant-loop-number g l =
    (vec_len l.hands + l.number ≡ l.producers) × (vec_len l.receivers + l.number ≡ l.producers) × (vec_len l.rooms + l.number ≡ l.producers)
    × (vec_len l.posts ≡ l.number) × (l.producers ≤ vec_capacity l.posts)
    × AllAt (IsHand l.shared.intake.lanes.items) l.number l.hands.items × AllAt (IsConsumerAt replies.view replies.is_of l.shared.delivery.channels.items) l.number l.receivers.items
    × All (λ s. received s ≡ []) l.receivers.items
    × All (λ v. (v.items ≡ []) × (length l.shared.intake.lanes.items ≤ vec_capacity v)) l.rooms.items × AllAt (IsPost l.shared) 0 l.posts.items
    × (l.seating.seats ≡ l.number) × (281474976710656 ≤ l.seating.tickets + l.number * 1099511627776)
