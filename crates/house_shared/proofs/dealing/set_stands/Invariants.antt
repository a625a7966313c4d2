use Rattle.std.proofs.Common.{◌≡◌, ◌≤◌, ◌+◌, [], All, length, vec_len, vec_capacity}
use Rattle.shard_queue.specs.Permits.{got}
use Rattle.shard_queue.specs.Permits as queues
use Rattle.house_shared.specs.Crew.{AllAt, IsStand}
use Rattle.house_shared.proofs.DealLaws.{IsConsumerAt, IsSenderHand}
use Rattle.house_shared.proofs.dealing.set_stands.Given as goal

abbrev pub invariant-loop-shard : goal.invariant-loop-shard
invariant-loop-shard g l =
    (vec_len l.hands + l.shard ≡ l.shards) × (vec_len l.consumers + l.shard ≡ l.shards) × (vec_len l.parkers + l.shard ≡ l.shards) × (vec_len l.rooms + l.shard ≡ l.shards)
    × (vec_len l.stands ≡ l.shard) × (l.shards ≤ vec_capacity l.stands)
    × AllAt (IsSenderHand l.shared.delivery.channels.items) l.shard l.hands.items × AllAt (IsConsumerAt queues.view queues.is_of l.shared.intake.lanes.items) l.shard l.consumers.items
    × All (λ s. got s ≡ []) l.consumers.items
    × All (λ v. (v.items ≡ []) × (length l.shared.delivery.channels.items ≤ vec_capacity v)) l.rooms.items × AllAt (IsStand l.shared) 0 l.stands.items
