-- What is known when all lanes and all reply channels were closed, with what is left of all permits.
use Rattle.std.specs.Prelude.{ℕ, List}
use Rattle.delivery_token.specs.declared.Job.{Job}
use Rattle.delivery_token.specs.declared.log.Noted.{Noted}
use Rattle.shard_queue.specs.declared.shared.View.{View}
use Rattle.shard_queue.specs.declared.permits.SharedLane.{SharedLane}
use Rattle.shard_queue.specs.declared.permits.EndedPermit.{EndedPermit}
use Rattle.shard_queue.specs.declared.permits.ConsumersPermit.{ConsumersPermit}
use Rattle.shard_queue.specs.declared.permits.ClosedLane.{ClosedLane}
use Rattle.shard_queue.specs.Permits as queues
use Rattle.shard_queue.specs.Permits.{Closed, ConsumerPermit, Ended, ShardQueue}
use Rattle.shard_queue.specs.Reply as replies
use Rattle.shard_queue.specs.Reply.{ReceiverPermit, ReplyChannel, ReplyClosed, SenderEnded}
use Rattle.lane_work.specs.SharedLanes.{AllIn, AreClosed, IsTorn}

module _ {T C P : Type 0} (view : P → View T) where
  -- Each lane was closed, with what is left of all producers' permits there.
  abbrev pub AreClosedOf : (SharedLane C → ℕ) → List (SharedLane C) → List (List (EndedPermit P)) → List (ConsumersPermit P) → List (ClosedLane P)
      → Type 0
  AreClosedOf room lanes hands consumers closed = (lists : List (List (EndedPermit P))) × AllIn hands lists
      × AreClosed view room lanes lists consumers closed

  -- Some lane was torn, though what is left of all producers' permits was there.
  abbrev pub AreTornOf : List (SharedLane C) → List (List (EndedPermit P)) → List (ConsumersPermit P) → Type 0
  AreTornOf lanes hands consumers = (lists : List (List (EndedPermit P))) × AllIn hands lists × IsTorn view lanes lists consumers

-- The same of the shards' lanes.
abbrev pub AreClosedWith : List (ShardQueue Job) → List (List (Ended Job)) → List (ConsumerPermit Job) → List (Closed Job) → Type 0
AreClosedWith = AreClosedOf queues.view queues.capacity_of

abbrev pub AreTornWith : List (ShardQueue Job) → List (List (Ended Job)) → List (ConsumerPermit Job) → Type 0
AreTornWith = AreTornOf queues.view

-- The same of the reply channels.
abbrev pub AreChannelsClosedWith : List (ReplyChannel Noted) → List (List (SenderEnded Noted)) → List (ReceiverPermit Noted)
    → List (ReplyClosed Noted) → Type 0
AreChannelsClosedWith = AreClosedOf replies.view replies.room_of

abbrev pub AreChannelsTornWith : List (ReplyChannel Noted) → List (List (SenderEnded Noted)) → List (ReceiverPermit Noted) → Type 0
AreChannelsTornWith = AreTornOf replies.view
