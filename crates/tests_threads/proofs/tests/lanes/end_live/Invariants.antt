use Rattle.std.proofs.Common.{◌≡◌}
use Rattle.shard_queue.specs.Permits.{IsProducer, number_of}
use Rattle.tests_threads.proofs.tests.lanes.end_live.Given as goal

abbrev pub invariant-loop : goal.invariant-loop
invariant-loop g l = IsProducer l.lane l.permit × (number_of l.permit ≡ number_of l.fn.permit)
