use Rattle.std.proofs.Common.{rules, ◌≡◌, ◌<◌, ◌+◌, ℕ, length, map, vec_len, subst, sym, arith}
use Rattle.house_shared.specs.Crew.{AllAt, IsPost}
use Rattle.house_shared.proofs.Positions.{first_at, more_at}
use Rattle.serving_workers.specs.Leaving.{IsSpawned, serves_mail}
use Rattle.serving.specs.inner.Ending.{FirstTakeMail}
use Rattle.serving.proofs.Endings.{all_take, more_without}
use Rattle.serving.proofs.sessions.start_client_slots.Goals as goal

pub loop-client_slot-preserved : goal.loop-client_slot-preserved
loop-client_slot-preserved g c =
    let v = c.loop-client_slot.invariant in
    let shared = c.args.site.now.workplace.shared in
    let before = c.loop-client_slot.spawned in
    let more = c.push_reserved.ensures.len in
    let some : 0 < length c.loop-client_slot.posts.items = omega (arith, v.1, c.loop-client_slot-test.true, c.loop-client_slot.posts.ok.0) in
    let f = first_at (IsPost shared) (vec_len before) c.loop-client_slot.posts.items c.remove-post.new.self.items c.remove-post.result some c.remove-post.ensures.value c.remove-post.ensures.items v.0 in
    let at : c.len-number.result ≡ 0 + length before.items = omega (arith, c.len-number.ensures, before.ok.0) in (
      subst (λ (n : ℕ). AllAt (IsPost shared) n c.remove-post.new.self.items) (sym more) f.1,
      omega (arith, v.1, c.loop-client_slot-test.true, c.remove-post.ensures.len),
      omega (arith, v.1, v.2, c.loop-client_slot-test.true, c.remove-post.ensures.len, more),
      search rules,
      search rules,
      more_at (IsSpawned g.L.Line.told shared) 0 before.items c.push_reserved.new.self.items c.start_answering-one.result c.len-number.result c.push_reserved.ensures.items v.5 at c.start_answering-one.ensures.spawned,
      search rules,
      more_without serves_mail (vec_len c.args.spawned) before.items c.push_reserved.new.self.items c.start_answering-one.result c.push_reserved.ensures.items c.start_answering-one.ensures.mail v.7,
    )

pub loop-client_slot-init : goal.loop-client_slot-init
loop-client_slot-init g c =
    let spawned = c.args.spawned in
    let e : length spawned.items ≡ vec_len spawned = omega (arith, spawned.ok.0) in (
      search rules,
      search rules,
      search rules,
      search rules,
      search rules,
      search rules,
      search rules,
      subst (λ (n : ℕ). FirstTakeMail n (map serves_mail spawned.items)) e (all_take serves_mail spawned.items c.requires.mail),
    )
