use Rattle.std.proofs.Common.{◌≡◌, ◌+◌, ◌≤◌, ◌<◌, ℕ, length, take, get_or}
use Rattle.std.specs.Prelude.{vec_len, vec_capacity}
use Rattle.cursor_set.specs.Gap.{around, IsGapOf}
use Rattle.cursor_set.specs.Leaving.{counted}
use Rattle.cursor_set.proofs.leaving.Leaving.close.Given as goal

-- the gap has taken in the first of those that are gone, and stands before each other
abbrev pub invariant-loop-before : goal.invariant-loop-before
invariant-loop-before l = record {
  gap : IsGapOf l.gap l.view.items;
  around : around l.gap l.view.items ≡ counted (take l.before l.fn.self.gone.items) l.fn.view.items;
  up : (j : ℕ) → l.before ≤ j → j < length l.fn.self.gone.items → l.gap.start + j ≤ get_or l.fn.self.gone.items j 0;
  len : vec_len l.view ≡ vec_len l.fn.view;
  capacity : vec_capacity l.view ≡ vec_capacity l.fn.view;
}
