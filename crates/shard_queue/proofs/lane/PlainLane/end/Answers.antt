use Rattle.std.proofs.Common.{rules}
use Rattle.shard_queue.proofs.PlainLaws.{end_makes}
use Rattle.shard_queue.proofs.lane.PlainLane.end.Goals as goal

pub returns-clause-moves : goal.returns-clause-moves
returns-clause-moves g c = end_makes c.args.producer c.args.self.now _ c.requires.live (search rules) (search rules)
