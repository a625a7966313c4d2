use Rattle.shard_queue.proofs.SharedLaws.{begins}
use Rattle.shard_queue.proofs.queue.EntryQueueCarrier.make.Goals as goal

pub ruled-requires-clause-rule : goal.ruled-requires-clause-rule
ruled-requires-clause-rule g c = begins
