use Rattle.std.proofs.Common.{◌∙◌, ap, sym}
use Rattle.shard_queue.specs.Lane.{producer}
use Rattle.shard_queue.proofs.SharedLaws.{puts, learns}
use Rattle.shard_queue.proofs.reply.BothEndsCarrier.put.Goals as goal

pub try_send_as-requires-clause-rule : goal.try_send_as-requires-clause-rule
try_send_as-requires-clause-rule g c = let i = c.loop.invariant in
    (puts _ _ _ _ _ _ _ _ (i.1 ∙ c.requires.1.0) (sym (ap producer i.2)) c.requires.1.1, learns _ _)
