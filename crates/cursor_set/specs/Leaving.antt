-- A client's view while messages are taken out of it.
use Rattle.std.specs.Prelude.{ℕ, ◌<◌, List, [], ◌∷◌, All, length, remove}
use Rattle.std.specs.List.Sorted.{IsStrictlyIncreasing}

-- the UIDs that count: all of the view but those at the indices that are gone, which rise; the last is taken out first,
-- so that each is an index of the view as it stands
abbrev pub counted : List ℕ → List ℕ → List ℕ
counted [] view = view
counted (index ∷ gone) view = remove (counted gone view) index

-- the indices are of the view, and rise
pub record AreIn (gone view : List ℕ) : Type 0 where
  pub rising : IsStrictlyIncreasing gone
  pub within : All (λ index. index < length view) gone
