-- A view while it is closed over UIDs that are gone.
use Rattle.std.specs.Prelude.{ℕ, ◌≤◌, List, ◌++◌, take, drop, length}
use Rattle.cursor_set.specs.declared.gap.Gap.{Gap}

-- the UIDs on either side of the gap
abbrev pub around : Gap → List ℕ → List ℕ
around gap view = take gap.start view ++ drop gap.end view

-- the gap is a part of the view, perhaps of no UIDs
pub record IsGapOf (gap : Gap) (view : List ℕ) : Type 0 where
  pub rising : gap.start ≤ gap.end
  pub within : gap.end ≤ length view
