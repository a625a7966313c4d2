-- What bodies and proofs say besides: what a shared consumer keeps, whoever had its lock.
use Rattle.std.specs.Prelude.{◌≡◌, Bool, List, [], length, map, Option, Some}
use Rattle.std.specs.List.{list_any}
use Rattle.delivery_token.specs.declared.Job.{Job}
use Rattle.shard_queue.specs.Permits.{ShardQueue}
use Rattle.shard_queue.specs.Reply.{sent_on}
use Rattle.shard_queue.specs.Permits.{got}
use Rattle.lane_work.specs.Answering.{is_nobodys}
use Rattle.lane_work.specs.inner.Answering.{HaveAnswered}
use Rattle.lane_work.specs.Permits.{AreSenders}
use Rattle.lane_work.specs.declared.consumer.Stall.{Stall}
use Rattle.shared_consumers.specs.Keeping.{IsOnLane, Parts}

-- Of a lane group with this delivery side: its senders are of all channels, and what was said on each is the answers to the copies that were taken,
-- and nothing else. It is torn where one of these was nobody's.
pub record IsAnswering {B : Type 0} (delivery : Parts) (stall : Stall B) (is_torn : Bool) : Type 0 where
  pub senders : AreSenders delivery.channels stall.shard stall.senders.items
  pub answered : HaveAnswered delivery.mailboxes (length delivery.channels) stall.shard (got stall.permit) [] (map sent_on stall.senders.items)
  pub torn : is_torn ≡ list_any (is_nobodys delivery.mailboxes (length delivery.channels)) (got stall.permit)

-- all that, of the lane group that the shared consumer's type names
pub record Keeps {B : Type 0} (lanes : Option (List (ShardQueue Job))) (delivery : Option Parts) (stall : Stall B) (torn : Bool) : Type 0 where
  pub on_lane : (ls : List (ShardQueue Job)) → lanes ≡ Some ls → IsOnLane ls stall
  pub answering : (d : Parts) → delivery ≡ Some d → IsAnswering d stall torn
