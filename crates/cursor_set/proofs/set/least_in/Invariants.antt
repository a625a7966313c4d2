use Rattle.std.proofs.Common.{◌≡◌, map, None}
use Rattle.slab.specs.Slab.{entries}
use Rattle.cursor_set.proofs.LeastLaws.{number_of, least_after}
use Rattle.cursor_set.proofs.set.least_in.Given as goal

-- the least so far, and then that of what is left
abbrev pub invariant-loop-slot : goal.invariant-loop-slot
invariant-loop-slot l =
    (goal.iterator-loop-slot).can_next l._slot-iterator ×
    (goal.iterator-loop-slot).is_finite l._slot-iterator ×
    (least_after l.base l.least (map number_of l._slot-iterator) ≡ least_after l.base None (map number_of (entries l.slots)))
