use Rattle.shard_queue.proofs.ClosingLaws.{none_set}
use Rattle.shard_queue.proofs.shared.no_marks.Goals as goal

pub returns : goal.returns
returns g p = none_set 256 p
