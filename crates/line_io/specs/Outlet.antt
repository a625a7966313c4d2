-- What is said through an outlet, and what of it a buffer has sent.
use Rattle.std.specs.Prelude.{◌≡◌, ℕ, ◌<◌, length, List, ◌++◌, Option, Bool}
use Rattle.std.specs.Io.KnownBytes.{Appends}

-- what saying doesn't change of an outlet
pub record Lot : Type 0 where
  -- what its sink had taken when nothing was said yet, where there is a sink that tells it
  pub start : Option (List ℕ)
  -- the bytes of memory that it has for what is said, where it never takes more
  pub memory : Option ℕ

-- A buffer over a sink: what is said stands in `pending` until it is sent.
pub record Buffer : Type 0 where
  pub said : List ℕ
  -- what the sink had taken when nothing was said yet, and what it has taken now, where it tells that
  pub start : Option (List ℕ)
  pub taken : Option (List ℕ)
  pub pending : List ℕ
  -- whether the sink has failed
  pub failed : Bool
  -- the most bytes that may be pending, and the bytes of memory that are kept for them
  pub limit : ℕ
  pub memory : ℕ

-- all that was said was sent
abbrev pub SentAll : Buffer → Type 0
SentAll b = Appends b.start b.taken b.said

-- the first bytes of what was said were sent, and not all
abbrev pub SentFirst : Buffer → Type 0
SentFirst b = (sent : List ℕ) × (rest : List ℕ) × (b.said ≡ sent ++ rest) × (0 < length rest) × Appends b.start b.taken sent
