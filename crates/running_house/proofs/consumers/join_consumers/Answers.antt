use Rattle.std.proofs.Common.{rules, ◌≡◌, ◌∷◌, sym, subst, vec_len, arith}
use Rattle.std.specs.Vec.Iter.{into_iter_items}
use Rattle.house_shared.specs.Crew.{AllAt}
use Rattle.house_shared.specs.Left.{IsServiceOf}
use Rattle.running_house.specs.inner.Crew.{IsKept}
use Rattle.house_shared.proofs.Positions.{head_at, more_at}
use Rattle.running_house.proofs.consumers.join_consumers.Goals as goal

pub loop-one-preserved : goal.loop-one-preserved
loop-one-preserved g c =
    let v = c.loop-one.invariant in
    let shared = c.args.shared.now in
    let first : into_iter_items c.loop-one.one-iterator ≡ c.in-Some.one ∷ into_iter_items c.next.new.self = search rules in
    let f = head_at (IsKept shared) (vec_len c.loop-one.consumed) (into_iter_items c.loop-one.one-iterator) (into_iter_items c.next.new.self) c.in-Some.one first v.0 in (
      subst (λ n. AllAt (IsKept shared) n (into_iter_items c.next.new.self)) (sym c.push_reserved.ensures.len) f.1,
      search rules,
      search rules,
      more_at (IsServiceOf shared) 0 c.loop-one.consumed.items c.push_reserved.new.self.items c.join_consumer.result (vec_len c.loop-one.consumed) c.push_reserved.ensures.items v.3 (omega (arith, c.loop-one.consumed.ok.0)) (c.join_consumer.ensures (vec_len c.loop-one.consumed) f.0),
    )
