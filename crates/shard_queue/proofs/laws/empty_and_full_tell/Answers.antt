use Rattle.shard_queue.proofs.SeenLaws.{nothing_left, was_filled}
use Rattle.shard_queue.proofs.laws.empty_and_full_tell.Goals as goal

pub returns-clause-empty : goal.returns-clause-empty
returns-clause-empty g c = nothing_left

pub returns-clause-full : goal.returns-clause-full
returns-clause-full g c = was_filled
