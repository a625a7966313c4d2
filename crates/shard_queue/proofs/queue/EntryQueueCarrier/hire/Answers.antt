use Rattle.shard_queue.proofs.SharedLaws.{hires}
use Rattle.shard_queue.proofs.queue.EntryQueueCarrier.hire.Goals as goal

pub another-requires-clause-rule : goal.another-requires-clause-rule
another-requires-clause-rule g c = hires _ _ _ _ _ _ _ c.requires.1 c.requires.2
