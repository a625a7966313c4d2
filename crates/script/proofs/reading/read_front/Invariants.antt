use Rattle.std.proofs.Common.{◌≡◌, ◌≤◌, ℕ, List, Some, length, [], false}
use Rattle.script.specs.inner.Kept.{HasRead, most_kept}
use Rattle.script.proofs.reading.read_front.Given as goal

abbrev pub invariant-loop : goal.invariant-loop
invariant-loop g l =
    (length l.line.items ≤ most_kept)
    × ((xs : List ℕ) → g.R.Read.remaining l.fn.reader ≡ Some xs → HasRead xs [] (g.R.Read.remaining l.reader) l.line.items false)
