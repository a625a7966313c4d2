-- What a call leaves as it was, and what a seat hears by it.
use Rattle.std.specs.Prelude.{◌≡◌, ◌≢◌, ◌<◌, ◌≤◌, ◌⊎◌, true, false, ℕ, List, [], ◌∷◌, ◌++◌, length}
use Rattle.delivery_token.specs.declared.log.Noted.{Noted}
use Rattle.shard_queue.specs.declared.lane.Entry.TheVariants.{End}
use Rattle.delivery_core.specs.DeliveryCore.{DeliveryCore, is_ended, lane_of, notes_of}

-- there are as many of each as there were
pub record SameCounts (old new : DeliveryCore) : Type 0 where
  pub lanes : length new.lanes ≡ length old.lanes
  pub hands : length new.hands ≡ length old.hands
  pub replies : length new.replies ≡ length old.replies
  pub heard : length new.heard ≡ length old.heard
  pub boxes : length new.boxes ≡ length old.boxes
  pub next : length new.next ≡ length old.next
  pub clients : length new.clients ≡ length old.clients

-- the seat heard these verdicts after all that it had heard, and no other seat heard any
pub record Hears (old new : DeliveryCore) (seat : ℕ) (more : List Noted) : Type 0 where
  pub here : notes_of new seat ≡ notes_of old seat ++ more
  pub others : (p : ℕ) → p ≢ seat → notes_of new p ≡ notes_of old p

-- nothing changed of what lies between seats and mailboxes
pub record SameDelivery (old new : DeliveryCore) : Type 0 where
  pub lanes : new.lanes ≡ old.lanes
  pub hands : new.hands ≡ old.hands
  pub replies : new.replies ≡ old.replies
  pub heard : new.heard ≡ old.heard
  pub next : new.next ≡ old.next

-- The end of a seat went into the lane of a shard, behind all that waits: the seat had put none there, and there was room for it.
pub record Ends (old new : DeliveryCore) (seat shard : ℕ) : Type 0 where
  pub live : is_ended seat (lane_of old shard) ≡ false
  pub room : length (lane_of old shard).waiting < (lane_of old shard).capacity
  pub ended : is_ended seat (lane_of new shard) ≡ true
  pub last : (lane_of new shard).waiting ≡ (lane_of old shard).waiting ++ End seat ∷ []

-- the seat has put its end into the lane of a shard, or the lane is full
abbrev pub CannotEnd : DeliveryCore → ℕ → ℕ → Type 0
CannotEnd h seat shard = (is_ended seat (lane_of h shard) ≡ true) ⊎ ((lane_of h shard).capacity ≤ length (lane_of h shard).waiting)
