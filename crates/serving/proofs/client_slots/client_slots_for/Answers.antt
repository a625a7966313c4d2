use Rattle.std.proofs.Common.{rules, ◌≡◌, ◌*◌, ◌∙◌, ap, length, arith}
use Rattle.serving.specs.Announcing.{users_of}
use Rattle.serving.proofs.Users.{few, nobody, somebody}
use Rattle.serving.proofs.client_slots.client_slots_for.Goals as goal

pub returns-then-is_nobody-clause-count : goal.returns-then-is_nobody-clause-count
returns-then-is_nobody-clause-count c =
    let v = c.loop-user.invariant in
    let homes = c.args.directory.now.homes in
    let all = nobody c.loop-user.user homes c.is_nobody.result c.is_nobody.ensures c.if-is_nobody.true in
    let e : c.loop-user.user ≡ length (users_of homes) = omega (arith, v.3, all) in
    v.2 ∙ ap (λ n. c.args.count * n) e

pub loop-user-preserved : goal.loop-user-preserved
loop-user-preserved c =
    let v = c.loop-user.invariant in
    let homes = c.args.directory.now.homes in
    let there = somebody c.loop-user.user homes c.is_nobody.result c.is_nobody.ensures c.if-is_nobody.false in
    let more = c.in_ok-add_client_slots.ensures.count in
    let most = c.requires in
    let own = v.2 in
    let so_far = v.1 in (
      search rules,
      omega (arith, more, most, so_far),
      omega (arith, more, own),
      omega (arith, there),
    )

pub returns-clause-count : goal.returns-clause-count
returns-clause-count c =
    let v = c.loop-user.invariant in
    let homes = c.args.directory.now.homes in
    let most = few homes in
    let end = c.loop-user-test.false in
    let value = c.mailboxes-user-end.ensures.value in
    let under = v.3 in
    let at = c.loop-user.auto.user-end in
    let e : c.loop-user.user ≡ length (users_of homes) = omega (arith, under, most, end, value, at) in
    v.2 ∙ ap (λ n. c.args.count * n) e
