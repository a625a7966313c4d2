use Rattle.std.proofs.Common.{◌∙◌}
use Rattle.lane_work.proofs.PermitLaws.{senders_length}
use Rattle.shared_consumers.proofs.consumer_set.leave_stand.Goals as goal

pub returns-clause-senders : goal.returns-clause-senders
returns-clause-senders g c delivery is =
    let senders = c.into_stall.result.senders in
    senders.ok.0 ∙ senders_length delivery.channels c.into_inner-shared_consumer.result.shard senders.items (c.into_stall.ensures.senders delivery is)
