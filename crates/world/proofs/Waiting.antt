-- What waits was sent, in the words of the law.
use Rattle.std.proofs.Common.{ℕ, List}
use Rattle.delivery_token.specs.declared.CopyKey.{CopyKey}
use Rattle.delivery_token.specs.declared.Job.{Job}
use Rattle.delivery_token.specs.declared.log.Noted.{Noted}
use Rattle.shard_queue.specs.declared.lane.Entry.{Entry}
use Rattle.shard_queue.specs.declared.lane.Entry.TheVariants.{Item, End}
use Rattle.world.specs.World.{Config, World, Event, Hand, Empty, Taken, Done, IsWorld}
use Rattle.world.specs.Known.{WasSent, EntryWasSent, HandWasSent, ReplyWasSent, WhatWaits}
use Rattle.world.proofs.Always.{kept_always}
use Rattle.world.proofs.Base.{every_weaker, all_of_every}
use Rattle.world.proofs.Mails.{is_in_contains}
use Rattle.world.proofs.Known.{Known, Wanted, EntryKnown, HandKnown, ReplyKnown, known_always}

sent_of : (k : Config) (w : World) (key : CopyKey) (m : ℕ) → Wanted k w key m → WasSent k w key m
sent_of k w key m h = record { seat = h.seat; there = h.mailbox; shard = h.shard; sent = is_in_contains key _ h.sent }

entry_of : (k : Config) (w : World) (e : Entry Job) → EntryKnown k w e → EntryWasSent k w e
entry_of k w (Item p c) h = (h.0, sent_of k w c.key c.mailbox h.1)
entry_of k w (End p) h = tt

hand_of : (k : Config) (w : World) (x : Hand) → HandKnown k w x → HandWasSent k w x
hand_of k w Empty h = tt
hand_of k w (Taken c) h = sent_of k w c.key c.mailbox h
hand_of k w (Done r) h = sent_of k w r.key r.mailbox h

reply_of : (k : Config) (w : World) (p : ℕ) (e : Entry Noted) → ReplyKnown k w p e → ReplyWasSent k w p e
reply_of k w p (Item s r) h = (h.0, sent_of k w r.key r.mailbox h.1)
reply_of k w p (End s) h = absurd h

pub waits_always : (k : Config) (events : List Event) (w : World) → IsWorld k events w → WhatWaits k w
waits_always k events w h =
    let K : Known k w = known_always k events w h in
    record {
      lanes = λ s. all_of_every _ (w.lane s).waiting (every_weaker _ _ (entry_of k w) (w.lane s).waiting (K.lanes s));
      hands = λ s. hand_of k w (w.hand s) (K.hands s);
      replies = λ p. all_of_every _ (w.replies p).waiting (every_weaker _ _ (reply_of k w p) (w.replies p).waiting (K.replies p));
      live = (kept_always k events w h).live;
    }
