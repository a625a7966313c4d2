use Rattle.std.proofs.Common.{rules, ◌≡◌, ◌∷◌, sym, subst, vec_len, arith}
use Rattle.std.specs.Vec.Iter.{into_iter_items}
use Rattle.house_shared.specs.Crew.{AllAt}
use Rattle.running_house.specs.Produced.{IsProduceOf}
use Rattle.running_house.specs.inner.Crew.{IsSpawned}
use Rattle.house_shared.proofs.Positions.{head_at, more_at}
use Rattle.running_house.proofs.producers.join_producers.Goals as goal

pub loop-one-preserved : goal.loop-one-preserved
loop-one-preserved g c =
    let v = c.loop-one.invariant in
    let common = c.args.common in
    let first : into_iter_items c.loop-one.one-iterator ≡ c.in-Some.one ∷ into_iter_items c.next.new.self = search rules in
    let f = head_at (IsSpawned common.shared.now common.plans.now common.guests.now) (vec_len c.loop-one.worked) (into_iter_items c.loop-one.one-iterator) (into_iter_items c.next.new.self) c.in-Some.one first v.0 in (
      subst (λ n. AllAt (IsSpawned common.shared.now common.plans.now common.guests.now) n (into_iter_items c.next.new.self)) (sym c.push_reserved.ensures.len) f.1,
      search rules,
      search rules,
      more_at (IsProduceOf common.shared.now common.plans.now common.guests.now) 0 c.loop-one.worked.items c.push_reserved.new.self.items c.join_producer.result (vec_len c.loop-one.worked) c.push_reserved.ensures.items v.3 (omega (arith, c.loop-one.worked.ok.0)) (c.join_producer.ensures (vec_len c.loop-one.worked) f.0),
    )
