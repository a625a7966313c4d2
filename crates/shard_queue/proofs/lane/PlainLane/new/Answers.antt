use Rattle.std.proofs.Common.{rules}
use Rattle.shard_queue.proofs.PlainLaws.{lane_new}
use Rattle.shard_queue.proofs.lane.PlainLane.new.Goals as goal

pub returns-clause-stands : goal.returns-clause-stands
returns-clause-stands g c = lane_new c.args.capacity c.args.producers _ (search rules)
