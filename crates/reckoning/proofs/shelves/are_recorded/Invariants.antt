use Rattle.std.proofs.Common.{◌≡◌, take, vec_len}
use Rattle.house_shared.specs.Crew.{AllAt}
use Rattle.reckoning.specs.Shelves.{IsRecorded}
use Rattle.reckoning.proofs.shelves.are_recorded.Given as goal

abbrev pub invariant-loop-number : goal.invariant-loop-number
invariant-loop-number g l = (l.unlocked.items ≡ l.fn.unlocked.items) × (vec_len l.unlocked ≡ vec_len l.fn.unlocked) × AllAt (IsRecorded l.front) 0 (take l.number l.fn.unlocked.items)
