-- What putting a copy does to a lane.
use Rattle.std.specs.Prelude.{◌≡◌, ℕ, ◌<◌, ◌⊎◌, length, slice_index_or}
use Rattle.delivery_core.specs.DeliveryCore.{DeliveryCore}
use Rattle.delivery_token.specs.Keys.{Precedes}
use Rattle.delivery_token.specs.declared.CopyKey.{CopyKey}

-- The seat may put a copy with this key: the seat, the mailbox and a shard are there, and the key is the next one or a later one of its own.
pub record IsNextKey (h : DeliveryCore) (key : CopyKey) (mailbox : ℕ) : Type 0 where
  pub seat : key.seat < length h.replies
  pub next : (slice_index_or h.next key.seat key ≡ key) ⊎ Precedes (slice_index_or h.next key.seat key) key
  pub last : key.recipient < 255
  pub mailbox_there : mailbox < length h.boxes
  pub shard_there : 0 < length h.lanes
