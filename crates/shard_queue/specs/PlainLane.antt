-- What callers see of a lane: how many entries have room, which producers may still put, and what waits.
use Rattle.std.specs.Prelude.{ℕ, Bool, List}
use Rattle.shard_queue.specs.declared.lane.Entry.{Entry}

pub record PlainLane (T : Type 0) : Type 0 where
  pub capacity : ℕ
  pub live : List Bool
  pub waiting : List (Entry T)
