-- When a shared lane can be closed, and what is then known of it.
use Rattle.std.specs.Prelude.{◌≡◌, ◌≢◌, ◌⊎◌, ℕ, ◌<◌, true, false, List, [], All, Any}
use Rattle.shard_queue.specs.declared.lane.Entry.{Entry}
use Rattle.shard_queue.specs.declared.shared.View.{View}
use Rattle.shard_queue.specs.declared.shared.View.TheVariants.{Consumer, Producer, Spent}
use Rattle.shard_queue.specs.Lane.{of, has_end, Lane, IsMerge, IsClosed}

module _ {E T : Type 0} where
  -- of each producer the permit that has ended is there, and its end was taken
  abbrev pub IsAll : (E → ℕ) → ℕ → List E → List (Entry T) → Type 0
  IsAll number producers ended got = (p : ℕ) → p < producers → Any (λ e. number e ≡ p) ended × (has_end (of p got) ≡ true)

  -- the ended permit of one producer is missing, or its end wasn't taken
  abbrev pub IsNotAll : (E → ℕ) → ℕ → List E → List (Entry T) → Type 0
  IsNotAll number producers ended got = (p : ℕ) × (p < producers) × (All (λ e. number e ≢ p) ended ⊎ (has_end (of p got) ≡ false))

module _ {T : Type 0} where
  -- a consumer that has taken the end of each of so many producers
  abbrev pub HasAllEnds : ℕ → View T → Type 0
  HasAllEnds producers (Consumer n made got heard seen) = (n ≡ producers) × ((p : ℕ) → p < producers → has_end (of p got) ≡ true)
  HasAllEnds producers (Producer n p sent seen) = ⊥
  HasAllEnds producers Spent = ⊥

-- the lane of which all was taken that its producers sent
abbrev pub emptied : {T : Type 0} → List (Entry T) → Lane T
emptied got = record { sent = λ p. of p got; got = got; waiting = [] }

-- All that the producers sent was taken, each has ended, and nobody else has sent anything.
pub record IsWhole {T : Type 0} (producers room : ℕ) (got : List (Entry T)) : Type 0 where
  pub merge : IsMerge producers room (emptied got)
  pub closed : IsClosed producers (emptied got)
