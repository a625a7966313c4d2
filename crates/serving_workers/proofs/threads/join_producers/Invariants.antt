use Rattle.std.proofs.Common.{◌≡◌, ◌≤◌, ◌+◌, ◌++◌, map, vec_len, vec_capacity}
use Rattle.std.specs.Vec.Iter.{into_iter_items, into_iter_len}
use Rattle.house_shared.specs.Crew.{AllAt}
use Rattle.serving_workers.specs.Leaving.{IsSpawned, IsServed, serves_mail}
use Rattle.serving_workers.proofs.threads.join_producers.Given as goal

abbrev pub invariant-loop-one : goal.invariant-loop-one
invariant-loop-one g l =
    AllAt (IsSpawned g.L.Line.told l.shared) (vec_len l.served) (into_iter_items l.one-iterator)
    × (into_iter_len l.one-iterator + vec_len l.served ≡ vec_len l.fn.spawned) × (vec_len l.fn.spawned ≤ vec_capacity l.served)
    × AllAt (IsServed g.L.Line.told l.shared) 0 l.served.items
    × (map (λ s. s.mail) l.served.items ++ map serves_mail (into_iter_items l.one-iterator) ≡ map serves_mail l.fn.spawned.items)
