use Rattle.std.proofs.Common.{◌≡◌}
use Rattle.crossbeam_channel.specs.Claims.{view, IsSeatAt}
use Rattle.crossbeam_channel.specs.Ends.{sends_on}
use Rattle.shard_queue.proofs.reply.BothEndsCarrier.put.Given as goal

abbrev pub invariant-loop : goal.invariant-loop
invariant-loop g l = IsSeatAt (sends_on l.self.sender) l.pass × (view l.pass ≡ view l.fn.pass) × (l.entry ≡ l.fn.entry)
