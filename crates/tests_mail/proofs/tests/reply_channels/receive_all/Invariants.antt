use Rattle.shard_queue.specs.Reply.{IsReceiver}
use Rattle.tests_mail.proofs.tests.reply_channels.receive_all.Given as goal

abbrev pub invariant-loop : goal.invariant-loop
invariant-loop g l = IsReceiver l.channel l.permit
