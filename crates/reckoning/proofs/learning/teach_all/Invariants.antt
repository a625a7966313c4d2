use Rattle.std.proofs.Common.{All, take}
use mathlib.Core.List.{IsPrefix}
use Rattle.house_history.specs.Legal.{Legal}
use Rattle.reckoning.specs.inner.Histories.{IsKnown}
use Rattle.reckoning.proofs.learning.teach_all.Given as goal

abbrev pub invariant-loop-number : goal.invariant-loop-number
invariant-loop-number g l = IsPrefix l.fn.front l.front × Legal l.front × All (IsKnown l.front) (take l.number l.worked)
