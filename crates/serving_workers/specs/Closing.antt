-- What is known of a house that was closed with nothing amiss.
use Rattle.std.specs.Prelude.{◌≡◌, List, [], ◌∷◌, true, false, length, map, vec_len}
use Rattle.std.specs.List.{list_any}
use Rattle.delivery_token.specs.declared.Job.{Job}
use Rattle.delivery_token.specs.declared.log.Noted.{Noted}
use Rattle.house_history.specs.Legal.{Legal}
use Rattle.shard_queue.specs.Permits.{Ended}
use Rattle.shard_queue.specs.Reply.{received, reply_history, ReceiverPermit}
use Rattle.shard_queue.specs.Shared.{IsStartOf}
use Rattle.shard_queue.specs.declared.lane.Entry.{Entry}
use Rattle.lane_work.specs.ChannelPermits.{AreReceivers}
use Rattle.shared_consumers.specs.declared.consumer_set.Dismissed.{Dismissed}
use Rattle.house_shared.specs.declared.shared.HouseShared.{HouseShared}
use Rattle.reckoning.specs.Closing.{AreChannelsClosedWith, AreClosedWith}
use Rattle.reckoning.specs.Histories.{AreBacked}
use Rattle.reckoning.specs.Shelves.{IsRecorded}
use Rattle.house_shared.specs.Crew.{AllAt}
use Rattle.serving_workers.specs.declared.accepting.Served.{Served}
use Rattle.serving_workers.specs.Finished.{Finished, told_of}
use Rattle.serving_workers.specs.Leaving.{Told}

-- each of these lists goes on from the one at its position
abbrev pub GoOn : (before after : List (List (Entry Noted))) → Type 0
GoOn [] [] = Unit {0}
GoOn [] (list ∷ after) = ⊥
GoOn (list ∷ before) [] = ⊥
GoOn (first ∷ before) (list ∷ after) = IsStartOf first list × GoOn before after

-- Each shared consumer stood in its place, and nobody met what he didn't await. These are what was taken of each queue: each lane was closed with
-- what the producers left of their permits there and with its consumer's, each reply channel with what the shared consumers left of theirs and with
-- its own receiver. `told`: what a line tells
pub record WasClosed {B L : Type 0} (told : L → Told) (shared : HouseShared B) (served : List (Served B L)) (dismissed : Dismissed B)
    (finished : Finished) : Type 0 where
  pub in_order : dismissed.in_order ≡ true
  pub producers : list_any (λ s. s.torn) served ≡ false
  pub shared_consumers : list_any (λ c. c.torn) dismissed.consumed.items ≡ false
  pub lanes : AreClosedWith shared.intake.lanes.items (map (λ s. s.ended.items) served)
      (map (λ c. c.permit) dismissed.consumed.items) finished.lanes.items
  pub channels : (receivers : List (ReceiverPermit Noted)) × AreReceivers shared.delivery.channels.items receivers
      × AreChannelsClosedWith shared.delivery.channels.items (map (λ c. c.senders.items) dismissed.consumed.items) receivers finished.channels.items
  -- what each producer had heard stands in front of all that came on its channel
  pub heard : GoOn (map (λ s. received s.receiver) served) (map reply_history finished.channels.items)
  -- the house's history, as far as it is handed out, is legal, and has all of that
  pub legal : Legal finished.front
  pub backed : AreBacked finished.front 0 (map (λ s. s.ended.items) served) (map reply_history finished.channels.items)
  -- and of each mailbox, which stood at its number, just what happened there
  pub mailboxes : AllAt (IsRecorded finished.front) 0 finished.mailboxes.items
  pub each_mailbox : vec_len finished.mailboxes ≡ length shared.delivery.mailboxes.items
  -- what each worker's line tells
  pub lines : finished.lines ≡ map (λ s. told_of told s.line) served
