-- The shared consumers of all shards, and what they leave.
use Rattle.std.specs.Prelude.{◌≡◌, ℕ, List, [], Some, slice_get}
use Rattle.delivery_token.specs.declared.Job.{Job}
use Rattle.shard_queue.specs.Permits.{ShardQueue}
use Rattle.shard_queue.specs.Permits.{WasEmpty, capacity_of, got, producers_of, take_seen}
use Rattle.lane_work.specs.Consuming.{IsConsumed}
use Rattle.lane_work.specs.declared.consumer.Consumed.{Consumed}
use Rattle.lane_work.specs.declared.consumer.Delivery.{Delivery}

-- What a consumer of shard n leaves that had sent nothing before, of its own lane. That was empty at one moment behind all that had been there when
-- it last took.
pub record IsService {B : Type 0} (lanes : List (ShardQueue Job)) (delivery : Delivery B) (n : ℕ) (c : Consumed B) : Type 0 where
  pub each : (lane : ShardQueue Job) → slice_get lanes n ≡ Some lane → IsConsumed lane delivery n [] c
  pub empty : (lane : ShardQueue Job) → slice_get lanes n ≡ Some lane
      → WasEmpty (producers_of lane) (capacity_of lane) (got c.permit) (take_seen c.permit)
