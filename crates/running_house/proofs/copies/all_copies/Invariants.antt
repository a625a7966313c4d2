use Rattle.std.proofs.Common.{◌≡◌, ◌++◌, map}
use Rattle.lane_work.specs.Consuming.{items_of}
use Rattle.running_house.proofs.copies.all_copies.Given as goal

-- those of the lanes so far, and of those that are still to come
abbrev pub invariant-loop-one : goal.invariant-loop-one
invariant-loop-one l = map (λ c. c.items) l.copies.items ++ map (λ t. items_of t.items) l.one-iterator.rest.items ≡ map (λ t. items_of t.items) l.fn.taken.items
