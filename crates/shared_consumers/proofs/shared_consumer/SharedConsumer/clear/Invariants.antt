use Rattle.std.proofs.Common.{◌≡◌}
use Rattle.shard_queue.specs.Shared.{IsStartOf}
use Rattle.shared_consumers.proofs.shared_consumer.SharedConsumer.clear.Given as goal

abbrev pub invariant-loop : goal.invariant-loop
invariant-loop g l = (l.self.shard ≡ l.fn.self.shard) × IsStartOf l.fn.self.took l.self.took
