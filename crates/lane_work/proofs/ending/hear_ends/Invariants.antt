use Rattle.std.proofs.Common.{◌≡◌, ◌≤◌, ◌+◌, ◌-◌, ◌↔◌, length, true}
use Rattle.shard_queue.specs.Reply.{IsReceiver, received}
use Rattle.shard_queue.specs.Shared.{IsStartOf}
use Rattle.lane_work.specs.Ends.{ends_in}
use Rattle.lane_work.proofs.ending.hear_ends.Given as goal

abbrev pub invariant-loop : goal.invariant-loop
invariant-loop g l = IsReceiver l.channel l.receiver × (l.heard + ends_in (received l.fn.receiver) ≤ l.fn.heard + ends_in (received l.receiver))
    × IsStartOf (received l.fn.receiver) (received l.receiver)
    × (ends_in (received l.receiver) + length (received l.fn.receiver) ≤ length (received l.receiver) + ends_in (received l.fn.receiver))
    × (l.fn.heard ≤ l.heard) × (l.heard - l.fn.heard ≤ l.shards - l.fn.heard) × (l.heard + ends_in (received l.fn.receiver) ≡ l.fn.heard + ends_in (received l.receiver))
    × ((l.quiet ≡ true) ↔ (length (received l.receiver) + ends_in (received l.fn.receiver) ≡ length (received l.fn.receiver) + ends_in (received l.receiver)))
