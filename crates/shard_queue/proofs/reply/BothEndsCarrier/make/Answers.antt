use Rattle.shard_queue.proofs.SharedLaws.{begins}
use Rattle.shard_queue.proofs.reply.BothEndsCarrier.make.Goals as goal

pub bounded_with-requires-clause-rule : goal.bounded_with-requires-clause-rule
bounded_with-requires-clause-rule g c = begins
