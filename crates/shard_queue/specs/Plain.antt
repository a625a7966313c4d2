-- What the calls of a lane on one thread say.
use Rattle.std.specs.Prelude.{◌≡◌, ℕ, ◌<◌, not, Bool, true, false, List, [], ◌∷◌, length, Option, Some, None, slice_index_or}
use Rattle.shard_queue.specs.declared.lane.Entry.{Entry}
use Rattle.shard_queue.specs.declared.lane.Entry.TheVariants as entries
use Rattle.shard_queue.specs.declared.lane.Taken.{Taken}
use Rattle.shard_queue.specs.declared.lane.Taken.TheVariants.{Item, End, Empty}
use Rattle.shard_queue.specs.Lane.{Lane, Move, Moves, has_end}
use Rattle.shard_queue.specs.PlainLane.{PlainLane}

-- p is a producer that has not ended
abbrev pub MayPutMore : List Bool → ℕ → Type 0
MayPutMore live p = slice_index_or live p false ≡ true

-- what waited, by what was taken and what waits now
abbrev pub before_taking : {T : Type 0} → Taken T → List (Entry T) → List (Entry T)
before_taking (Item p x) es = entries.Item p x ∷ es
before_taking (End p) es = entries.End p ∷ es
before_taking Empty es = es

-- what was taken
abbrev pub taken_entry : {T : Type 0} → Taken T → Option (Entry T)
taken_entry (Item p x) = Some (entries.Item p x)
taken_entry (End p) = Some (entries.End p)
taken_entry Empty = None

-- whether the first that waits is an item
abbrev pub starts_with_item : {T : Type 0} → List (Entry T) → Bool
starts_with_item [] = false
starts_with_item (entries.Item p x ∷ es) = true
starts_with_item (entries.End p ∷ es) = false

-- A lane on one thread, of so many producers and with so much room, stands for a lane by its history: the same waits, and those may put more that
-- have not sent their end.
pub record StandsForLane {A : Type 0} (count room : ℕ) (l : PlainLane A) (w : Lane A) : Type 0 where
  pub capacity : l.capacity ≡ room
  pub producers : length l.live ≡ count
  pub waiting : l.waiting ≡ w.waiting
  pub live : (p : ℕ) (d : Bool) → p < length l.live → has_end (w.sent p) ≡ not (slice_index_or l.live p d)

-- Each lane for which the old one stood is led by this move, which is legal there, to one for which the new one stands.
abbrev pub Makes : {A : Type 0} → PlainLane A → Move A → PlainLane A → Type 0
Makes {A} old move new = (count room : ℕ) (w : Lane A) → StandsForLane count room old w → (v : Lane A) × Moves count room w move v
    × StandsForLane count room new v
