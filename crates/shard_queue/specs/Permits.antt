-- What contracts see of a shard queue and of its permits.
use Rattle.std.specs.Prelude.{ℕ, List}
use Rattle.crossbeam_queue.specs.Passes.{Pass, IsPassOf, ruled_capacity}
use Rattle.shard_queue.specs.declared.lane.Entry.{Entry}
use Rattle.shard_queue.specs.declared.shared.View.{View}
use Rattle.shard_queue.specs.declared.queue.EntryQueue.{EntryQueue}
use Rattle.shard_queue.specs.declared.permits.SharedLane.{SharedLane}
use Rattle.shard_queue.specs.declared.permits.Permit.{Permit}
use Rattle.shard_queue.specs.declared.permits.EndedPermit.{EndedPermit}
use Rattle.shard_queue.specs.declared.permits.ConsumersPermit.{ConsumersPermit}
use Rattle.shard_queue.specs.declared.permits.ClosedLane.{ClosedLane}
use Rattle.shard_queue.specs.SharedLane as lanes
pub use Rattle.crossbeam_queue.specs.Passes.{view}
pub use Rattle.shard_queue.specs.SharedLane.{numbers, WasFull, WasEmpty, AreMarks, IsPutBehind, IsLeftBy, number_of, ended_number}

abbrev pub ShardQueue : Type 0 → Type 0
ShardQueue T = SharedLane (EntryQueue T)

abbrev pub ProducerPermit : Type 0 → Type 0
ProducerPermit T = Permit (Pass (Entry T) (View T))

abbrev pub Ended : Type 0 → Type 0
Ended T = EndedPermit (Pass (Entry T) (View T))

abbrev pub ConsumerPermit : Type 0 → Type 0
ConsumerPermit T = ConsumersPermit (Pass (Entry T) (View T))

abbrev pub Closed : Type 0 → Type 0
Closed T = ClosedLane (Pass (Entry T) (View T))

module _ {T : Type 0} where
  -- the pass is one of this carrier
  abbrev pub is_of : EntryQueue T → Pass (Entry T) (View T) → Type 0
  is_of q p = IsPassOf q.queue p

  abbrev pub sent : ProducerPermit T → List (Entry T)
  sent = lanes.sent view

  abbrev pub said : Ended T → List (Entry T)
  said = lanes.said view

  abbrev pub got : ConsumerPermit T → List (Entry T)
  got = lanes.taken view

  abbrev pub put_seen : ProducerPermit T → List (Entry T)
  put_seen = lanes.put_seen view

  abbrev pub end_seen : Ended T → List (Entry T)
  end_seen = lanes.end_seen view

  abbrev pub take_seen : ConsumerPermit T → List (Entry T)
  take_seen = lanes.take_seen view

  abbrev pub history : Closed T → List (Entry T)
  history = lanes.all_taken view

  abbrev pub capacity_of : ShardQueue T → ℕ
  capacity_of q = ruled_capacity q.carrier.queue

  abbrev pub producers_of : ShardQueue T → ℕ
  producers_of q = q.producers

  abbrev pub IsProducer : ShardQueue T → ProducerPermit T → Type 0
  IsProducer = lanes.IsPermit view is_of

  abbrev pub IsEnded : ShardQueue T → Ended T → Type 0
  IsEnded = lanes.IsEndedPermit view is_of

  abbrev pub IsConsumer : ShardQueue T → ConsumerPermit T → Type 0
  IsConsumer = lanes.IsConsumersPermit view is_of
