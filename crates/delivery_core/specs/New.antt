-- What a new delivery side is made of.
use Rattle.std.specs.Prelude.{◌≡◌, ℕ, true, [], replicate}
use Rattle.delivery_token.specs.declared.CopyKey.{CopyKey}
use Rattle.shard_queue.specs.PlainLane.{PlainLane}
use Rattle.world.specs.World.{reply_room}
use Rattle.world.specs.declared.hand.Hand.TheVariants.{Empty}
use Rattle.delivery_core.specs.declared.group.Seat.{Seat}
use Rattle.delivery_core.specs.declared.group.Shard.{Shard}
use Rattle.mailbox.specs.declared.history.History.TheVariants.{Kept}
use Rattle.mailbox.specs.Mailbox.{Mailbox, Stands}

-- nothing waits, and each producer may put
abbrev pub new_lane : {T : Type 0} → ℕ → ℕ → PlainLane T
new_lane capacity producers = record { capacity = capacity; live = replicate producers true; waiting = [] }

-- the least key of a seat
abbrev pub first_key : ℕ → CopyKey
first_key p = record { seat = p; serial = 0; message = 0; recipient = 0 }

-- a shard with nothing in its lane and in its hand
abbrev pub new_shard : ℕ → ℕ → Shard
new_shard capacity seats = record { lane = new_lane capacity seats; hand = Empty }

-- a seat that nothing waits for, that has heard nothing, and that begins with its least key
pub record IsNewSeat (p shards : ℕ) (s : Seat) : Type 0 where
  pub replies : s.replies ≡ new_lane reply_room shards
  pub heard : s.heard.notes ≡ []
  pub next : s.next ≡ first_key p

-- a mailbox with nothing in it and no client, of this number and these settings, which keeps the copies that it takes; its window may grow up to
-- `most`
pub record IsNewBox (number uidvalidity first_uid messages ring most : ℕ) (b : Mailbox) : Type 0 where
  pub at : b.number ≡ number
  pub validity : b.uidvalidity ≡ uidvalidity
  pub log : Stands b []
  pub empty : b.messages ≡ []
  pub accepted : b.accepted ≡ []
  pub first : b.first_uid ≡ first_uid
  pub limit : b.limit ≡ messages
  pub history : b.history ≡ Kept
  pub window : b.window ≡ record { base = 0; changes = []; capacity = ring; max = most }
  pub clients : b.cursors ≡ record { number = number; next = 0; slots = [] }
