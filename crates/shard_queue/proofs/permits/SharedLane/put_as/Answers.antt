use Rattle.std.proofs.Common.{◌∙◌, ap, refl}
use Rattle.shard_queue.specs.Lane.{has_end}
use Rattle.shard_queue.specs.SharedLane.{sent}
use Rattle.shard_queue.proofs.ClosingLaws.{sent_more, item_no_end}
use Rattle.shard_queue.proofs.permits.SharedLane.put_as.Goals as goal

pub returns-in-Ok-clause-permit : goal.returns-in-Ok-clause-permit
returns-in-Ok-clause-permit g c = let r = c.requires.permit in let e = c.in-Ok.ensures in let t = sent_more _ _ _ _ _ _ _ r.1 e.put in
    ((e.pass, t.0, ap has_end t.1 ∙ item_no_end (sent g.C.Carrier.view c.args.permit.now) c.args.permit.now.number c.args.item ∙ r.2), refl)
