use Rattle.std.proofs.Common.{◌∙◌, ap, refl}
use Rattle.shard_queue.specs.Lane.{has_end}
use Rattle.shard_queue.specs.SharedLane.{sent}
use Rattle.shard_queue.proofs.ClosingLaws.{sent_more, end_has_end}
use Rattle.shard_queue.proofs.permits.SharedLane.end_as.Goals as goal

pub returns-clause-ended : goal.returns-clause-ended
returns-clause-ended g c = let r = c.requires.permit in let e = c.in-Ok.ensures in let t = sent_more _ _ _ _ _ _ _ r.1 e.put in
    ((e.pass, t.0, ap has_end t.1 ∙ end_has_end (sent g.C.Carrier.view c.args.permit) c.args.permit.number), refl, t.1, t.2)
