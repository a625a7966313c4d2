use Rattle.shard_queue.proofs.ClosingLaws.{told}
use Rattle.shard_queue.proofs.permits.SharedLane.hear_out.Goals as goal

pub returns-clause-said : goal.returns-clause-said
returns-clause-said g c = let h = c.look.ensures.saw in told _ _ _ _ _ _ h.0 _ _ c.requires.pass.1 c.requires.ended.1 c.absorb.ensures.1 h.1
