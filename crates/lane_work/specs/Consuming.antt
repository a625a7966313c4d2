-- What one consumer's thread says.
use Rattle.std.specs.Prelude.{◌≡◌, ◌<◌, true, ℕ, List, [], ◌∷◌, ◌++◌, length, map, slice_index_or, Option, Some, None, filter_map}
use Rattle.std.specs.List.{list_any}
use Rattle.shard_queue.specs.declared.lane.Entry.{Entry}
use Rattle.shard_queue.specs.declared.lane.Entry.TheVariants.{Item, End}
use Rattle.delivery_token.specs.declared.Job.{Job}
use Rattle.delivery_token.specs.declared.log.Noted.{Noted}
use Rattle.shard_queue.specs.Permits.{ShardQueue}
use Rattle.shard_queue.specs.Permits.{IsConsumer, got}
use Rattle.shard_queue.specs.Reply.{said_on}
use Rattle.lane_work.specs.Answering.{WereAnswered, is_nobodys}
use Rattle.lane_work.specs.Permits.{AreSendersEnded}
use Rattle.lane_work.specs.declared.consumer.Consumed.{Consumed}
use Rattle.lane_work.specs.declared.consumer.Delivery.{Delivery}

module _ {A : Type 0} where
  abbrev pub item_of : Entry A → Option A
  item_of (Item p item) = Some item
  item_of (End p) = None

  -- the items among these entries
  abbrev pub items_of : List (Entry A) → List A
  items_of entries = filter_map item_of entries

-- Its permits are of its lane and of each channel. Where it kept every entry, they are those that it took, in order; it is torn where one of them was
-- nobody's copy. On each channel it said, behind what it had sent before, one verdict on each copy that it took of that producer, in order, each by a
-- delivery of that copy under a lock, or refused where no mailbox of its number was found; and then its end.
pub record IsConsumed {B : Type 0} (lane : ShardQueue Job) (delivery : Delivery B) (shard : ℕ) (before : List (List (Entry Noted)))
    (c : Consumed B) : Type 0 where
  pub permit : IsConsumer lane c.permit
  pub senders : AreSendersEnded delivery.channels.items shard c.senders.items
  pub kept : c.kept ≡ true → c.taken.items ≡ got c.permit
  pub torn : c.torn ≡ list_any (is_nobodys (length delivery.mailboxes.items) (length delivery.channels.items)) (got c.permit)
  pub said : (p : ℕ) → p < length delivery.channels.items → (told : List (Entry Noted))
      × WereAnswered (length delivery.mailboxes.items) shard p (got c.permit) told
      × (slice_index_or (map said_on c.senders.items) p [] ≡ (slice_index_or before p [] ++ told) ++ End shard ∷ [])
