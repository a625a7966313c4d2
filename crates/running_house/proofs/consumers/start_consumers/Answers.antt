use Rattle.std.proofs.Common.{rules, ◌≡◌, ◌<◌, ◌+◌, ◌∙◌, length, arith}
use Rattle.house_shared.specs.Crew.{IsStand}
use Rattle.running_house.specs.inner.Crew.{IsKept}
use Rattle.house_shared.proofs.Positions.{first_at, more_at}
use Rattle.running_house.proofs.consumers.start_consumers.Goals as goal

pub loop-position-preserved : goal.loop-position-preserved
loop-position-preserved g c =
    let v = c.loop-position.invariant in
    let shared = c.args.common.shared.now in
    let some : 0 < length c.loop-position.stands.items = omega (arith, v.1, c.loop-position-test.true, c.loop-position.stands.ok.0) in
    let f = first_at (IsStand shared) c.loop-position.position c.loop-position.stands.items c.remove-stand.new.self.items c.remove-stand.result some c.remove-stand.ensures.value c.remove-stand.ensures.items v.0 in
    let at : c.loop-position.position ≡ 0 + length c.loop-position.kept.items = omega (arith, v.3, c.loop-position.kept.ok.0) in (
      f.1,
      search rules,
      more_at (IsKept shared) 0 c.loop-position.kept.items c.push_reserved.new.self.items c.start_consumer-one.result c.loop-position.position c.push_reserved.ensures.items v.2 at c.start_consumer-one.ensures,
      c.push_reserved.ensures.len ∙ search rules,
      search rules,
      search rules,
    )
