-- Which changes may be shown to a client that counts these UIDs.
use Rattle.std.specs.Prelude.{ℕ, List, ◌++◌}
use Rattle.std.specs.List.Sorted.{IsStrictlyIncreasing}
use Rattle.change_ring.specs.declared.change.Change.{Change}
use Rattle.change_ring.specs.Log.{FitsView, added}

-- UIDs rise, those of the view and then those that are added, and no change speaks of a message that isn't there.
-- So it is with what is left of a legal log after its first changes were shown.
pub record IsLegalOn (view : List ℕ) (changes : List Change) : Type 0 where
  pub rising : IsStrictlyIncreasing (view ++ added changes)
  pub there : FitsView view changes
