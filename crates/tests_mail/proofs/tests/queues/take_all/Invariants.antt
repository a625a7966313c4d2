use Rattle.shard_queue.specs.Permits.{IsConsumer}
use Rattle.tests_mail.proofs.tests.queues.take_all.Given as goal

abbrev pub invariant-loop : goal.invariant-loop
invariant-loop g l = IsConsumer l.queue l.permit
