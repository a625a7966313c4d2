use Rattle.std.proofs.Common.{refl}
use Rattle.shard_queue.proofs.SharedLaws.{puts, learns}
use Rattle.shard_queue.proofs.queue.EntryQueueCarrier.put.Goals as goal

pub push_as-requires-clause-rule : goal.push_as-requires-clause-rule
push_as-requires-clause-rule g c = (puts _ _ _ _ _ _ _ _ c.requires.1.0 refl c.requires.1.1, learns _ _)
