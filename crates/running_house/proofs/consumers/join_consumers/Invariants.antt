use Rattle.std.proofs.Common.{◌≡◌, ◌≤◌, ◌+◌, vec_len, vec_capacity}
use Rattle.std.specs.Vec.Iter.{into_iter_items, into_iter_len}
use Rattle.house_shared.specs.Crew.{AllAt}
use Rattle.house_shared.specs.Left.{IsServiceOf}
use Rattle.running_house.specs.inner.Crew.{IsKept}
use Rattle.running_house.proofs.consumers.join_consumers.Given as goal

abbrev pub invariant-loop-one : goal.invariant-loop-one
invariant-loop-one g l =
    AllAt (IsKept l.shared) (vec_len l.consumed) (into_iter_items l.one-iterator)
    × (into_iter_len l.one-iterator + vec_len l.consumed ≡ vec_len l.fn.kept) × (vec_len l.fn.kept ≤ vec_capacity l.consumed)
    × AllAt (IsServiceOf l.shared) 0 l.consumed.items
