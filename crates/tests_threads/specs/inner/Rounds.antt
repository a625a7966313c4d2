-- What a worker of the tests has, and what it leaves.
use Rattle.std.specs.Prelude.{ℕ, List}
use Rattle.delivery_token.specs.declared.Job.{Job}
use Rattle.shard_queue.specs.Permits.{Ended}
use Rattle.shard_queue.specs.Permits.{ShardQueue}
use Rattle.lane_work.specs.Permits.{AreEnded}
use Rattle.house_shared.specs.Crew.{IsPost}
use Rattle.house_shared.specs.declared.shared.HouseShared.{HouseShared}
use Rattle.house_shared.specs.declared.shared.Post.{Post}

-- the post of the worker whose number stands there
pub record IsOwnPost {B : Type 0} (shared : HouseShared B) (post : Post B) : Type 0 where
  pub is : IsPost shared post.desk.number post

-- one producer's ended permits, one on each lane
pub record AreSomeones (lanes : List (ShardQueue Job)) (ended : List (Ended Job)) : Type 0 where
  pub number : ℕ
  pub are : AreEnded lanes number ended
