use Rattle.shard_queue.proofs.SharedLaws.{learns}
use Rattle.shard_queue.proofs.reply.BothEndsCarrier.look.Goals as goal

pub learn_as-requires-clause-rule : goal.learn_as-requires-clause-rule
learn_as-requires-clause-rule g c = learns _ _
