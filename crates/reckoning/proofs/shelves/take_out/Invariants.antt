use Rattle.std.proofs.Common.{◌≡◌, ◌+◌, length, All}
use Rattle.house_shared.specs.Crew.{AllAt}
use Rattle.reckoning.specs.Shelves.{AreNumbered, AreToldOnce, HasAccepted}
use Rattle.reckoning.specs.Shelves.{IsTaught}
use Rattle.reckoning.proofs.shelves.take_out.Given as goal

abbrev pub invariant-loop-locked : goal.invariant-loop-locked
invariant-loop-locked g l =
    (length l.shelves.accepted.items + length l.locked-iterator.rest.items ≡ length l.fn.unlocked.items)
    × (length l.shelves.texts.items + length l.locked-iterator.rest.items ≡ length l.fn.unlocked.items)
    × All (λ v. AreNumbered v.items) l.shelves.accepted.items
    × All (λ v. AreToldOnce v.items) l.shelves.texts.items
    × AllAt (HasAccepted l.front) 0 l.shelves.accepted.items
    × All (IsTaught l.front) l.locked-iterator.rest.items
