use Rattle.std.proofs.Common.{◌≡◌, ◌+◌, ◌≤◌, All, length, vec_capacity}
use mathlib.Core.List.{IsPrefix}
use Rattle.house_history.specs.Legal.{Legal}
use Rattle.reckoning.specs.Shelves.{IsTaught}
use Rattle.reckoning.proofs.shelves.unlock_into.Given as goal

abbrev pub invariant-loop-behind : goal.invariant-loop-behind
invariant-loop-behind g l =
    (length l.unlocked.items + length l.behind-iterator.rest.items ≡ length l.fn.mailboxes.items)
    × (length l.fn.mailboxes.items ≤ vec_capacity l.unlocked)
    × IsPrefix l.fn.front l.front × Legal l.front × All (IsTaught l.front) l.unlocked.items
