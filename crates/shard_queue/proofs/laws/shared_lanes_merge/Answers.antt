use Rattle.shard_queue.proofs.SharedLaws.{permits_merge}
use Rattle.shard_queue.proofs.laws.shared_lanes_merge.Goals as goal

pub returns : goal.returns
returns g c waiting permits h = permits_merge waiting permits h
