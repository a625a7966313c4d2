-- When the delivery side stands for a world: what it holds is that world's. The rest of the world, all that was ever sent, taken and
-- logged, it need not hold.
use Rattle.std.specs.Prelude.{◌≡◌, ℕ, ◌<◌, ◌≤◌, List, length, map, slice_index_or, All, Option, Some, None}
use Rattle.delivery_token.specs.Keys.{Below}
use Rattle.delivery_token.specs.declared.CopyKey.{CopyKey}
use Rattle.delivery_token.specs.Text.{Text}
use Rattle.delivery_token.specs.declared.Job.{Job}
use Rattle.shard_queue.specs.Plain.{StandsForLane}
use Rattle.mailbox.specs.Mailbox.{Mailbox, Message, Stands}
use Rattle.world.specs.World.{Config, World, Box, Session, Event, Step, Steps, IsWorld, EntryBelow, reply_room}
use Rattle.world.specs.Law.{IsPart, pairs}
use Rattle.delivery_core.specs.declared.client.Client.{Client}
use Rattle.delivery_core.specs.Attached.{AreAttached, cursors_of}
use Rattle.delivery_core.specs.DeliveryCore.{DeliveryCore}

-- P holds of each position and the element there
abbrev pub EachAt : {A : Type 0} → (ℕ → A → Type 0) → List A → Type 0
EachAt {A} P xs = (i : ℕ) (d : A) → i < length xs → P i (slice_index_or xs i d)

-- a message by its UID and text
abbrev pub text_of : Message → ℕ × Text
text_of m = (m.uid, m.text)

-- an accepted copy by its UID and text
abbrev pub accepted_text : Job × ℕ → ℕ × Text
accepted_text a = (a.1, a.0.text)

-- the mailbox is as the log leaves it, with its window's base and its history
pub record StandsForBox (k : Config) (b : Mailbox) (w : Box) : Type 0 where
  pub log : Stands b w.log
  pub base : b.window.base ≡ w.base
  pub accepted : b.accepted ≡ pairs w.accepted
  -- each message has the text of the copy that was accepted under its UID
  pub texts : IsPart (map text_of b.messages) (map accepted_text w.accepted)
  pub first_uid : b.first_uid ≡ k.first_uid
  pub uidvalidity : b.uidvalidity ≡ k.uidvalidity
  pub messages : b.limit ≡ k.messages
  -- its window has room for as many changes as the ring keeps at least, has no more than it has room for, and no more room than it keeps at most
  pub ring : k.ring ≤ b.window.capacity
  pub held : length b.window.changes ≤ b.window.capacity
  pub most : b.window.capacity ≤ b.window.max
  pub ring_max : b.window.max ≡ k.ring_max

-- the client is the session's: in its mailbox, with its cursor
pub record StandsForClient (c : Client) (s : Session) : Type 0 where
  pub mailbox : c.mailbox ≡ s.mailbox
  pub cursor : c.handle.at ≡ s.cursor

-- a client is where a session has selected, and no other
abbrev pub StandsForPlace : Option Client → Option Session → Type 0
StandsForPlace None None = Unit {0}
StandsForPlace (Some c) (Some s) = StandsForClient c s
StandsForPlace None (Some s) = ⊥
StandsForPlace (Some c) None = ⊥

-- each key that seat p has sent or heard of is below y
pub record IsNext (w : World) (p : ℕ) (y : CopyKey) : Type 0 where
  pub own : y.seat ≡ p
  pub sent : (t : ℕ) → All (EntryBelow y) ((w.lane t).sent p)
  pub heard : All (λ r. Below r.key y) (w.heard p)

-- some events led to this world
abbrev pub Reached : Config → World → Type 0
Reached k w = (events : List Event) × IsWorld k events w

pub record StandsFor (k : Config) (h : DeliveryCore) (w : World) : Type 0 where
  pub reached : Reached k w
  -- as many of each as there are
  pub shards : length h.lanes ≡ k.shards
  pub in_hands : length h.hands ≡ k.shards
  pub seats : length h.replies ≡ k.seats
  pub hearing : length h.heard ≡ k.seats
  pub nexts : length h.next ≡ k.seats
  pub mailboxes : length h.boxes ≡ k.mailboxes
  pub sessions : length h.clients ≡ k.sessions
  -- and each is as the world has it
  pub lanes : EachAt (λ s l. StandsForLane k.seats k.depth l (w.lane s)) h.lanes
  pub hands : EachAt (λ s hand. hand ≡ w.hand s) h.hands
  pub replies : EachAt (λ p l. StandsForLane k.shards reply_room l (w.replies p)) h.replies
  pub heard : EachAt (λ p book. book.notes ≡ w.heard p) h.heard
  pub boxes : EachAt (λ m b. StandsForBox k b (w.box m)) h.boxes
  pub next : EachAt (λ p y. IsNext w p y) h.next
  pub clients : EachAt (λ n c. StandsForPlace c (w.session n)) h.clients
  -- each mailbox gives its next cursor the serial that is due
  pub opened : EachAt (λ m s. s.next ≡ w.opened m) (cursors_of h.boxes)
  -- and each client has its cursor
  pub attached : AreAttached (cursors_of h.boxes) h.clients

-- From each world that the old one stood for, these events lead to one that the new one stands for.
abbrev pub Follows : Config → DeliveryCore → List Event → DeliveryCore → Type 0
Follows k old events new = (w : World) → StandsFor k old w → (v : World) × Steps k w events v × StandsFor k new v

-- In no world that it stood for does this event change anything.
abbrev pub ChangesNothing : Config → DeliveryCore → Event → Type 0
ChangesNothing k old event = (w v : World) → StandsFor k old w → Step k w event v → v ≡ w
