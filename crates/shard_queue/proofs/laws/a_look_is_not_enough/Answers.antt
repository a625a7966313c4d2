use Rattle.shard_queue.proofs.SeenLaws.{look_not_empty, look_not_full}
use Rattle.shard_queue.proofs.laws.a_look_is_not_enough.Goals as goal

pub returns-clause-empty : goal.returns-clause-empty
returns-clause-empty g c = look_not_empty

pub returns-clause-full : goal.returns-clause-full
returns-clause-full g c = look_not_full
