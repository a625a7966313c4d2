use Rattle.std.proofs.Common.{◌≡◌}
use Rattle.shard_queue.specs.Reply.{IsSender, sender_number, sent_on}
use Rattle.lane_work.proofs.answering.tell.Given as goal

abbrev pub invariant-loop : goal.invariant-loop
invariant-loop g l = IsSender l.channel l.permit × (sender_number l.permit ≡ sender_number l.fn.permit) × (sent_on l.permit ≡ sent_on l.fn.permit) × (l.answer ≡ l.fn.answer)
