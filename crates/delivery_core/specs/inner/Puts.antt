-- What bodies and proofs say besides: what putting a copy does to a lane.
use Rattle.std.specs.Prelude.{◌≡◌, ℕ, ◌<◌, ◌≤◌, false, [], ◌∷◌, ◌++◌, length, slice_index_or, Option, Some, None}
use Rattle.delivery_token.specs.declared.Job.{Job}
use Rattle.delivery_token.specs.declared.Refusal.{Refusal}
use Rattle.delivery_token.specs.declared.Refusal.TheVariants.{Full, NoMemory, Shut}
use Rattle.shard_queue.specs.Plain.{MayPutMore}
use Rattle.shard_queue.specs.PlainLane.{PlainLane}
use Rattle.shard_queue.specs.declared.lane.Entry.TheVariants.{Item}

-- The copy joined the lane, or was refused and the lane is as it was.
pub data LanePuts (old : PlainLane Job) (p : ℕ) (c : Job) (new : PlainLane Job) (why : Option Refusal) : Type 0 where
  joins : MayPutMore old.live p → length old.waiting < old.capacity → why ≡ None
      → new ≡ record { capacity = old.capacity; live = old.live; waiting = old.waiting ++ Item p c ∷ [] } → LanePuts old p c new why
  has_no_room : MayPutMore old.live p → old.capacity ≤ length old.waiting → why ≡ Some Full → new ≡ old → LanePuts old p c new why
  -- there was room, and a growth was refused
  has_no_memory : MayPutMore old.live p → length old.waiting < old.capacity → why ≡ Some NoMemory → new ≡ old → LanePuts old p c new why
  -- the seat has put its end into it, whether it is full or not
  is_over : slice_index_or old.live p false ≡ false → why ≡ Some Shut → new ≡ old → LanePuts old p c new why
