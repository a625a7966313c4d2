-- How much is left to do: each take, delivery, answer, hearing and end makes it less, so that they come to an end.
use Rattle.std.specs.Prelude.{ℕ, ◌+◌, Bool, true, false, length, sum_by}
use Rattle.delivery_token.specs.declared.Job.{Job}
use Rattle.delivery_token.specs.declared.log.Noted.{Noted}
use Rattle.shard_queue.specs.PlainLane.{PlainLane}
use Rattle.shard_queue.specs.declared.lane.Entry.{Entry}
use Rattle.shard_queue.specs.declared.lane.Entry.TheVariants.{Item, End}
use Rattle.world.specs.declared.hand.Hand.{Hand}
use Rattle.world.specs.declared.hand.Hand.TheVariants.{Empty, Taken, Done}
use Rattle.delivery_core.specs.DeliveryCore.{DeliveryCore}

-- a copy that waits is to be taken, delivered, answered and heard; an end is to be taken
abbrev pub entry_load : Entry Job → ℕ
entry_load (Item p c) = 4
entry_load (End p) = 1

-- a copy in a hand is to be delivered, answered and heard; a verdict to be answered and heard
abbrev pub hand_load : Hand → ℕ
hand_load Empty = 0
hand_load (Taken c) = 3
hand_load (Done r) = 2

-- a seat that may still put its end into a lane is to put it, and then it is to be taken
abbrev pub end_load : Bool → ℕ
end_load true = 2
end_load false = 0

abbrev pub lane_load : PlainLane Job → ℕ
lane_load l = sum_by entry_load l.waiting + sum_by end_load l.live

-- a verdict that waits is to be heard
abbrev pub reply_load : PlainLane Noted → ℕ
reply_load l = length l.waiting

abbrev pub load : DeliveryCore → ℕ
load h = sum_by lane_load h.lanes + (sum_by hand_load h.hands + sum_by reply_load h.replies)
