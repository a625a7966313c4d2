-- What a shared consumer is to whoever holds its lock.
use Rattle.std.specs.Prelude.{ℕ, List}
use Rattle.delivery_token.specs.declared.Job.{Job}
use Rattle.shard_queue.specs.declared.lane.Entry.{Entry}

-- the shared consumer of this shard has taken these entries of its lane, in order; `seen` is all that had been put there when it last took
pub record SharedConsumer : Type 0 where
  pub shard : ℕ
  pub took : List (Entry Job)
  pub seen : List (Entry Job)
