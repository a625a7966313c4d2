-- What contracts see of a reply channel and of its permits.
use Rattle.std.specs.Prelude.{ℕ, List}
use Rattle.crossbeam_channel.specs.Claims.{Pass, IsSeatAt}
use Rattle.crossbeam_channel.specs.Ends.{sends_on, ruled_capacity}
use Rattle.shard_queue.specs.declared.lane.Entry.{Entry}
use Rattle.shard_queue.specs.declared.shared.View.{View}
use Rattle.shard_queue.specs.declared.ends.BothEnds.{BothEnds}
use Rattle.shard_queue.specs.declared.permits.SharedLane.{SharedLane}
use Rattle.shard_queue.specs.declared.permits.Permit.{Permit}
use Rattle.shard_queue.specs.declared.permits.EndedPermit.{EndedPermit}
use Rattle.shard_queue.specs.declared.permits.ConsumersPermit.{ConsumersPermit}
use Rattle.shard_queue.specs.declared.permits.ClosedLane.{ClosedLane}
use Rattle.shard_queue.specs.SharedLane as lanes
pub use Rattle.crossbeam_channel.specs.Claims.{view}

abbrev pub ReplyChannel : Type 0 → Type 0
ReplyChannel T = SharedLane (BothEnds T)

abbrev pub SenderPermit : Type 0 → Type 0
SenderPermit T = Permit (Pass (Entry T) (View T))

abbrev pub SenderEnded : Type 0 → Type 0
SenderEnded T = EndedPermit (Pass (Entry T) (View T))

abbrev pub ReceiverPermit : Type 0 → Type 0
ReceiverPermit T = ConsumersPermit (Pass (Entry T) (View T))

abbrev pub ReplyClosed : Type 0 → Type 0
ReplyClosed T = ClosedLane (Pass (Entry T) (View T))

module _ {T : Type 0} where
  -- the pass is one of this carrier
  abbrev pub is_of : BothEnds T → Pass (Entry T) (View T) → Type 0
  is_of c p = IsSeatAt (sends_on c.sender) p

  abbrev pub sent_on : SenderPermit T → List (Entry T)
  sent_on = lanes.sent view

  abbrev pub said_on : SenderEnded T → List (Entry T)
  said_on = lanes.said view

  abbrev pub received : ReceiverPermit T → List (Entry T)
  received = lanes.taken view

  abbrev pub send_seen : SenderPermit T → List (Entry T)
  send_seen = lanes.put_seen view

  abbrev pub last_seen : SenderEnded T → List (Entry T)
  last_seen = lanes.end_seen view

  abbrev pub receive_seen : ReceiverPermit T → List (Entry T)
  receive_seen = lanes.take_seen view

  abbrev pub reply_history : ReplyClosed T → List (Entry T)
  reply_history = lanes.all_taken view

  abbrev pub sender_number : SenderPermit T → ℕ
  sender_number s = s.number

  abbrev pub sender_ended_number : SenderEnded T → ℕ
  sender_ended_number s = s.number

  abbrev pub room_of : ReplyChannel T → ℕ
  room_of c = ruled_capacity (sends_on c.carrier.sender)

  abbrev pub senders_of : ReplyChannel T → ℕ
  senders_of c = c.producers

  abbrev pub IsSender : ReplyChannel T → SenderPermit T → Type 0
  IsSender = lanes.IsPermit view is_of

  abbrev pub IsSenderEnded : ReplyChannel T → SenderEnded T → Type 0
  IsSenderEnded = lanes.IsEndedPermit view is_of

  abbrev pub IsReceiver : ReplyChannel T → ReceiverPermit T → Type 0
  IsReceiver = lanes.IsConsumersPermit view is_of
