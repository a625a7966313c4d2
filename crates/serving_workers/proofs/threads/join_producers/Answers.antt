use Rattle.std.proofs.Common.{rules, ◌≡◌, ◌∷◌, length, map, sym, subst, vec_len, arith}
use Rattle.std.specs.Vec.Iter.{into_iter_items}
use Rattle.house_shared.specs.Crew.{AllAt}
use Rattle.house_shared.proofs.Positions.{head_at, more_at}
use Rattle.reckoning.proofs.Laying.{all_laid, laid_items}
use Rattle.serving_workers.specs.Leaving.{IsSpawned, IsServed, serves_mail}
use Rattle.serving_workers.specs.declared.accepting.Served.{Served}
use Rattle.serving_workers.proofs.threads.join_producers.Goals as goal

pub loop-one-preserved : goal.loop-one-preserved
loop-one-preserved g c =
    let v = c.loop-one.invariant in
    let shared = c.args.shared.now in
    let first : into_iter_items c.loop-one.one-iterator ≡ c.in-Some.one ∷ into_iter_items c.next.new.self = search rules in
    let f = head_at (IsSpawned g.L.Line.told shared) (vec_len c.loop-one.served) (into_iter_items c.loop-one.one-iterator) (into_iter_items c.next.new.self) c.in-Some.one first v.0 in (
      subst (λ n. AllAt (IsSpawned g.L.Line.told shared) n (into_iter_items c.next.new.self)) (sym c.push_reserved.ensures.len) f.1,
      search rules,
      search rules,
      more_at (IsServed g.L.Line.told shared) 0 c.loop-one.served.items c.push_reserved.new.self.items c.join_producer.result (vec_len c.loop-one.served) c.push_reserved.ensures.items v.3 (omega (arith, c.loop-one.served.ok.0)) (c.join_producer.ensures.served (vec_len c.loop-one.served) f.0),
      laid_items (λ (s : Served _ _). s.mail) serves_mail c.loop-one.served.items c.push_reserved.new.self.items _ (into_iter_items c.loop-one.one-iterator) (into_iter_items c.next.new.self) c.in-Some.one c.join_producer.result
          v.4 first c.push_reserved.ensures.items c.join_producer.ensures.mail,
    )

pub returns-clause-mail : goal.returns-clause-mail
returns-clause-mail g c =
    let none : length (into_iter_items c.loop-one.one-iterator) ≡ 0 = search rules in
    all_laid serves_mail (map (λ (s : Served _ _). s.mail) c.loop-one.served.items) _ (into_iter_items c.loop-one.one-iterator) none c.loop-one.invariant.4
