use Rattle.std.proofs.Common.{◌≡◌}
use Rattle.shard_queue.specs.Reply.{IsReceiver, received, receive_seen}
use Rattle.shard_queue.proofs.reply.ReplyChannel+T.recv_as.Given as goal

abbrev pub invariant-loop : goal.invariant-loop
invariant-loop g l = IsReceiver l.self l.permit × (received l.permit ≡ received l.fn.permit) × (receive_seen l.permit ≡ receive_seen l.fn.permit)
