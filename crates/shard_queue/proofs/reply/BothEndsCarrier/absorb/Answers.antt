use Rattle.shard_queue.proofs.ClosingLaws.{hears_all}
use Rattle.shard_queue.proofs.reply.BothEndsCarrier.absorb.Goals as goal

pub absorb-requires-clause-rule : goal.absorb-requires-clause-rule
absorb-requires-clause-rule g c = hears_all _ _ _ _ _ _ _ _ _ c.requires.pass.1 c.requires.ended.1 c.requires.ended.2
