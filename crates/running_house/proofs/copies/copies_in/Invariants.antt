use Rattle.std.proofs.Common.{◌≡◌, ◌++◌}
use Rattle.lane_work.specs.Consuming.{items_of}
use Rattle.running_house.proofs.copies.copies_in.Given as goal

-- the copies so far, and those that are still to come
abbrev pub invariant-loop-entry : goal.invariant-loop-entry
invariant-loop-entry l = l.copies.items ++ items_of l.entry-iterator.rest.items ≡ items_of l.fn.taken.items
