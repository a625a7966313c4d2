use Rattle.std.proofs.Common.{subst}
use Rattle.shard_queue.specs.Closing.{IsAll}
use Rattle.shard_queue.specs.SharedLane.{taken, ended_number}
use Rattle.shard_queue.proofs.ClosingLaws.{whole}
use Rattle.shard_queue.proofs.permits.SharedLane.close.Goals as goal

pub returns-clause-all : goal.returns-clause-all
returns-clause-all g c =
    subst (λ es. IsAll ended_number c.args.self.producers es (taken g.C.Carrier.view c.args.permit)) c.as_slice.ensures.value (c.are_all.ensures.all c.if-not-are_all.false)

pub returns-clause-whole : goal.returns-clause-whole
returns-clause-whole g c = let heard = c.hear_all_out.ensures.pass in let h = c.look.ensures.saw in whole _ _ _ h.0 _ heard.1 heard.2 h.1
