-- What is on its way was sent: each copy and each verdict that waits, or is in a hand, has a key that its seat sent.
use Rattle.std.specs.Prelude.{◌≡◌, ℕ, ◌<◌, List, filter_map, All, Contains, Option, Some, None}
use Rattle.delivery_token.specs.declared.CopyKey.{CopyKey}
use Rattle.delivery_token.specs.declared.Job.{Job}
use Rattle.delivery_token.specs.declared.log.Noted.{Noted}
use Rattle.shard_queue.specs.declared.lane.Entry.{Entry}
use Rattle.shard_queue.specs.declared.lane.Entry.TheVariants.{Item, End}
use Rattle.shard_queue.specs.Lane.{IsLive}
use Rattle.world.specs.World.{Config, World, Hand, Empty, Taken, Done}

-- the key of an entry that is a copy
abbrev pub key_in : Entry Job → Option CopyKey
key_in (Item p c) = Some c.key
key_in (End p) = None

-- the keys of the copies that seat p sent to shard s
abbrev pub sent_keys : World → ℕ → ℕ → List CopyKey
sent_keys w s p = filter_map key_in ((w.lane s).sent p)

-- the key's seat is there and sent it to some shard, and the mailbox is there
pub record WasSent (k : Config) (w : World) (key : CopyKey) (mailbox : ℕ) : Type 0 where
  pub seat : key.seat < k.seats
  pub there : mailbox < k.mailboxes
  pub shard : ℕ
  pub sent : Contains (sent_keys w shard key.seat) key

-- of an entry of a shard's lane
abbrev pub EntryWasSent : Config → World → Entry Job → Type 0
EntryWasSent k w (Item p c) = (c.key.seat ≡ p) × WasSent k w c.key c.mailbox
EntryWasSent k w (End p) = Unit {0}

-- of what a hand holds
abbrev pub HandWasSent : Config → World → Hand → Type 0
HandWasSent k w Empty = Unit {0}
HandWasSent k w (Taken c) = WasSent k w c.key c.mailbox
HandWasSent k w (Done r) = WasSent k w r.key r.mailbox

-- of an entry of seat p's reply lane, which is a verdict on a copy of p
abbrev pub ReplyWasSent : Config → World → ℕ → Entry Noted → Type 0
ReplyWasSent k w p (Item s r) = (r.key.seat ≡ p) × WasSent k w r.key r.mailbox
ReplyWasSent k w p (End s) = ⊥

pub record WhatWaits (k : Config) (w : World) : Type 0 where
  pub lanes : (s : ℕ) → All (EntryWasSent k w) (w.lane s).waiting
  pub hands : (s : ℕ) → HandWasSent k w (w.hand s)
  pub replies : (p : ℕ) → All (ReplyWasSent k w p) (w.replies p).waiting
  -- no shard ends a reply lane
  pub live : (p s : ℕ) → IsLive (w.replies p) s
