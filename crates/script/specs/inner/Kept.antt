-- How a line of the input is read part by part, and how much of it is kept.
use Rattle.std.specs.Prelude.{◌≡◌, ℕ, ◌≤◌, ◌++◌, ◌+◌, ◌⊎◌, Bool, true, false, List, [], Option, Some, length}
use Rattle.std.specs.Io.BufRead.{take_through, drop_through}
use Rattle.script.specs.Script.{most_bytes}

-- The most bytes that are kept of a line with its end. One that has so many is too long, or a comment, even where its last two are CR LF.
abbrev pub most_kept : ℕ
most_kept = most_bytes + 3

-- what is still to come of a line: nothing where it has ended
abbrev pub still_to_come : Bool → List ℕ → List ℕ
still_to_come true rest = []
still_to_come false rest = take_through 10 rest

-- the input behind the line
abbrev pub behind_line : Bool → List ℕ → List ℕ
behind_line true rest = rest
behind_line false rest = drop_through 10 rest

-- Of the line in front of this input a part was read, and kept behind what was there; `ended`: the whole line was.
pub record HasRead (input old : List ℕ) (left : Option (List ℕ)) (new : List ℕ) (ended : Bool) : Type 0 where
  pub rest : List ℕ
  pub remaining : left ≡ Some rest
  pub line : new ++ still_to_come ended rest ≡ old ++ take_through 10 input
  pub behind : behind_line ended rest ≡ drop_through 10 input

-- These bytes are the line's first, with this left behind them; `ended`: the line ends with them, or there are none because the input ended.
pub record IsPart (part left : List ℕ) (ended : Bool) : Type 0 where
  pub line : take_through 10 (part ++ left) ≡ part ++ still_to_come ended left
  pub behind : drop_through 10 (part ++ left) ≡ behind_line ended left

-- the line, or its front where it is too long to be kept
abbrev pub IsKept : List ℕ → List ℕ → Type 0
IsKept kept whole = (kept ≡ whole) ⊎ ((most_kept ≤ length kept) × (more : List ℕ) × (whole ≡ kept ++ more))
