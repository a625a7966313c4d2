use Rattle.std.proofs.Common.{rules, ◌≡◌, ◌<◌, ◌+◌, ◌∙◌, length, arith}
use Rattle.house_shared.specs.Crew.{IsPost}
use Rattle.running_house.specs.inner.Crew.{IsSpawned}
use Rattle.house_shared.proofs.Positions.{first_at, more_at}
use Rattle.running_house.proofs.producers.start_producers.Goals as goal

pub loop-position-preserved : goal.loop-position-preserved
loop-position-preserved g c =
    let v = c.loop-position.invariant in
    let common = c.args.common in
    let some : 0 < length c.loop-position.posts.items = omega (arith, v.1, c.loop-position-test.true, c.loop-position.posts.ok.0) in
    let f = first_at (IsPost common.shared.now) c.loop-position.position c.loop-position.posts.items c.remove-post.new.self.items c.remove-post.result some c.remove-post.ensures.value c.remove-post.ensures.items v.0 in
    let at : c.loop-position.position ≡ 0 + length c.loop-position.spawned.items = omega (arith, v.3, c.loop-position.spawned.ok.0) in (
      f.1,
      search rules,
      more_at (IsSpawned common.shared.now common.plans.now common.guests.now) 0 c.loop-position.spawned.items c.push_reserved.new.self.items c.start_producer-one.result c.loop-position.position c.push_reserved.ensures.items v.2 at c.start_producer-one.ensures,
      c.push_reserved.ensures.len ∙ search rules,
      search rules,
    )
