use Rattle.std.proofs.Common.{◌∙◌, sym, None}
use Rattle.lane_work.specs.declared.worker.Worked.{Worked}
use Rattle.reckoning.specs.Gathered.{fault_of_consumer, fault_of_fate}
use Rattle.reckoning.proofs.Balanced.{at_some, graver_none, gravest_none}
use Rattle.reckoning.proofs.balancing.balance.Goals as goal

pub returns-clause-balanced : goal.returns-clause-balanced
returns-clause-balanced g c =
    let is = c.close_queues-lanes.ensures in
    let each = graver_none _ _ (sym is.worst ∙ c.in_default.is) in
    record {
      fates = (gravest_none (λ (w : Worked _). fault_of_fate w.fate) None c.args.worked.items each.0).1;
      services = (gravest_none fault_of_consumer None c.args.consumed.items each.1).1;
      replies = is.replies;
      logs = is.logs;
      taken = is.taken;
      lanes_closed = at_some _ c.in-Some-lanes.lanes _ _ c.in-Some-lanes.is is.of_lanes;
      channels_closed = at_some _ c.in-Some-channels.channels _ _ c.in-Some-channels.is is.of_channels;
    }
