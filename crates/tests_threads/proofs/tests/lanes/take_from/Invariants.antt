use Rattle.shard_queue.specs.Permits.{IsConsumer}
use Rattle.tests_threads.proofs.tests.lanes.take_from.Given as goal

abbrev pub invariant-loop : goal.invariant-loop
invariant-loop g l = IsConsumer l.lane l.permit
