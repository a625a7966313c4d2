-- What a shared consumer keeps, whoever had its lock.
use Rattle.std.specs.Prelude.{◌≡◌, ◌<◌, ℕ, List, length, slice_get, Some}
use Rattle.delivery_token.specs.declared.Job.{Job}
use Rattle.delivery_token.specs.declared.log.Noted.{Noted}
use Rattle.shard_queue.specs.Permits.{ShardQueue}
use Rattle.shard_queue.specs.Permits.{IsConsumer}
use Rattle.shard_queue.specs.Reply.{ReplyChannel}
use Rattle.lane_work.specs.declared.consumer.Delivery.{Delivery}
use Rattle.lane_work.specs.declared.consumer.Stall.{Stall}

-- what of a delivery side a lane group names: how many mailboxes there are, and the reply channels
pub record Parts : Type 0 where
  pub mailboxes : ℕ
  pub channels : List (ReplyChannel Noted)

abbrev pub parts_of : {B : Type 0} → Delivery B → Parts
parts_of delivery = record { mailboxes = length delivery.mailboxes.items; channels = delivery.channels.items }

-- of a lane group with these lanes: the stall is of one of them, and its permit is that lane's
pub record IsOnLane {B : Type 0} (lanes : List (ShardQueue Job)) (stall : Stall B) : Type 0 where
  pub there : stall.shard < length lanes
  pub permit : (lane : ShardQueue Job) → slice_get lanes stall.shard ≡ Some lane → IsConsumer lane stall.permit
