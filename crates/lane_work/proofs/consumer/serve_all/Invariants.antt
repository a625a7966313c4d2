use Rattle.std.proofs.Common.{◌≡◌, ◌≤◌, true, length, map}
use Rattle.std.specs.List.{list_any}
use Rattle.shard_queue.specs.Reply.{sent_on}
use Rattle.shard_queue.specs.Permits.{IsConsumer, got}
use Rattle.lane_work.specs.Answering.{is_nobodys}
use Rattle.lane_work.specs.inner.Answering.{HaveAnswered}
use Rattle.lane_work.specs.Ends.{ends_in}
use Rattle.lane_work.specs.Permits.{AreSenders}
use Rattle.lane_work.proofs.consumer.serve_all.Given as goal

abbrev pub invariant-loop : goal.invariant-loop
invariant-loop g l =
    (l.stall.shard ≡ l.fn.stall.shard)
    × IsConsumer l.lane l.stall.permit
    × AreSenders l.delivery.channels.items l.fn.stall.shard l.stall.senders.items
    × HaveAnswered (length l.delivery.mailboxes.items) (length l.delivery.channels.items) l.fn.stall.shard (got l.stall.permit) (map sent_on l.fn.stall.senders.items) (map sent_on l.stall.senders.items)
    × (l.tally.torn ≡ list_any (is_nobodys (length l.delivery.mailboxes.items) (length l.delivery.channels.items)) (got l.stall.permit))
    × (l.tally.kept ≡ true → l.taken.items ≡ got l.stall.permit)
    × (l.ends ≤ ends_in (got l.stall.permit))
