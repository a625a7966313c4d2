use Rattle.shard_queue.specs.Lane.{empty_lane}
use Rattle.shard_queue.proofs.LaneLaws.{empty_merge, comes_merge, closed_is_empty}
use Rattle.shard_queue.proofs.laws.each_lane_is_a_merge.Goals as goal

pub returns-clause-merge : goal.returns-clause-merge
returns-clause-merge g c n room history l h = comes_merge n room empty_lane history l (empty_merge n room) h

pub returns-clause-closed : goal.returns-clause-closed
returns-clause-closed g c n room history l h closed = closed_is_empty n room l (comes_merge n room empty_lane history l (empty_merge n room) h) closed
