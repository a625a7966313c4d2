use Rattle.std.proofs.Common.{rules}
use Rattle.shard_queue.proofs.PlainLaws.{put_makes}
use Rattle.shard_queue.proofs.lane.PlainLane.put.Goals as goal

pub returns-clause-moves : goal.returns-clause-moves
returns-clause-moves g c = put_makes c.args.producer c.args.item c.args.self.now _ c.requires.live (search rules) (search rules)
