use Rattle.shared_consumers.proofs.KeepLaws.{keeps_new}
use Rattle.shared_consumers.proofs.shared_consumer.SharedConsumer.new.Goals as goal

pub invariant_of-result : goal.invariant_of-result
invariant_of-result g c = keeps_new g.H.LaneGroup.lanes g.H.LaneGroup.delivery c.args.stall c.requires.lane c.requires.senders c.requires.fresh.0 c.requires.fresh.1
