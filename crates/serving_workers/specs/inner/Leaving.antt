-- What bodies and proofs say besides: what the producers of a server leave.
use Rattle.std.specs.Prelude.{◌≡◌, ℕ, Bool, true, false, Some, map, slice_get}
use Rattle.delivery_token.specs.declared.log.Noted.{Noted}
use Rattle.shard_queue.specs.Reply.{ReplyChannel}
use Rattle.shard_queue.specs.Permits.{said}
use Rattle.shard_queue.specs.Reply.{IsReceiver, received}
use Rattle.lane_work.specs.Backing.{IsBackedBy}
use Rattle.lane_work.specs.Permits.{AreEnded}
use Rattle.lane_work.specs.declared.worker.Fate.{Fate}
use Rattle.lane_work.specs.declared.worker.Fate.TheVariants.{Whole, NotBegun, NoMemory, Torn}
use Rattle.lane_work.specs.declared.worker.Worked.{Worked}
use Rattle.house_shared.specs.declared.shared.HouseShared.{HouseShared}

abbrev pub is_whole : Fate → Bool
is_whole Whole = true
is_whole NotBegun = false
is_whole NoMemory = false
is_whole Torn = false

-- What producer n leaves once it has heard the end of each shard: the same; and where it heard these ends alone, the history has what it put and
-- heard.
pub record HasHeard {B : Type 0} (shared : HouseShared B) (n : ℕ) (w : Worked B) : Type 0 where
  pub ended : AreEnded shared.intake.lanes.items n w.ended.items
  pub receiver : (channel : ReplyChannel Noted) → slice_get shared.delivery.channels.items n ≡ Some channel → IsReceiver channel w.receiver
  pub backed : is_whole w.fate ≡ true → IsBackedBy n w.dispatch (received w.receiver) (map said w.ended.items)
