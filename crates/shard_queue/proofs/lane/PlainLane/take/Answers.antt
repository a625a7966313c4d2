use Rattle.std.proofs.Common.{rules}
use Rattle.shard_queue.proofs.PlainLaws.{take_makes}
use Rattle.shard_queue.proofs.lane.PlainLane.take.Goals as goal

pub returns-clause-moves : goal.returns-clause-moves
returns-clause-moves g c = take_makes c.match-pop_front.result c.args.self.now _ (search rules)
