use Rattle.shard_queue.proofs.SharedLaws.{announces}
use Rattle.shard_queue.proofs.reply.BothEndsCarrier.announce.Goals as goal

pub another-requires-clause-rule : goal.another-requires-clause-rule
another-requires-clause-rule g c = announces _ _ _ _ _ _ c.requires.1
