use Rattle.std.proofs.Common.{◌≡◌, ◌≤◌, ◌+◌, vec_len, vec_capacity}
use Rattle.std.specs.Vec.Iter.{into_iter_items, into_iter_len}
use Rattle.house_shared.specs.Crew.{AllAt}
use Rattle.running_house.specs.Produced.{IsProduceOf}
use Rattle.running_house.specs.inner.Crew.{IsSpawned}
use Rattle.running_house.proofs.producers.join_producers.Given as goal

abbrev pub invariant-loop-one : goal.invariant-loop-one
invariant-loop-one g l =
    AllAt (IsSpawned l.common.shared.now l.common.plans.now l.common.guests.now) (vec_len l.worked) (into_iter_items l.one-iterator)
    × (into_iter_len l.one-iterator + vec_len l.worked ≡ vec_len l.fn.spawned) × (vec_len l.fn.spawned ≤ vec_capacity l.worked)
    × AllAt (IsProduceOf l.common.shared.now l.common.plans.now l.common.guests.now) 0 l.worked.items
