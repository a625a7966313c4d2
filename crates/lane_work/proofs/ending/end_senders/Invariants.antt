use Rattle.std.proofs.Common.{◌≡◌, ◌≤◌, ◌++◌, ◌∷◌, [], map, take, drop, length, vec_len, vec_capacity}
use Rattle.shard_queue.specs.declared.lane.Entry.TheVariants.{End}
use Rattle.shard_queue.specs.Reply.{sent_on, said_on}
use Rattle.lane_work.specs.Permits.{AreSenders, AreSendersEnded}
use Rattle.lane_work.proofs.ending.end_senders.Given as goal

abbrev pub invariant-loop-channel : goal.invariant-loop-channel
invariant-loop-channel g l =
    AreSenders (drop l.channel l.channels) l.shard l.senders.items
    × AreSendersEnded (take l.channel l.channels) l.shard l.ended.items
    × (vec_len l.ended ≡ l.channel) × (length l.channels ≤ vec_capacity l.ended)
    × (map said_on l.ended.items ++ map (λ entries. entries ++ End l.shard ∷ []) (map sent_on l.senders.items) ≡ map (λ entries. entries ++ End l.shard ∷ []) (map sent_on l.fn.senders.items))
