use Rattle.std.proofs.Common.{arith}
use Rattle.serving.proofs.Users.{few, nobody, somebody}
use Rattle.serving.proofs.client_slots.count_users.Goals as goal

pub returns-then-is_nobody-clause-count : goal.returns-then-is_nobody-clause-count
returns-then-is_nobody-clause-count c =
    let under = c.loop-user.invariant in
    let all = nobody c.loop-user.user c.args.directory.now.homes c.is_nobody.result c.is_nobody.ensures c.if-is_nobody.true in
    omega (arith, under, all)

pub loop-user-preserved : goal.loop-user-preserved
loop-user-preserved c =
    let there = somebody c.loop-user.user c.args.directory.now.homes c.is_nobody.result c.is_nobody.ensures c.if-is_nobody.false in
    omega (arith, there)

pub returns-clause-count : goal.returns-clause-count
returns-clause-count c =
    let under = c.loop-user.invariant in
    let most = few c.args.directory.now.homes in
    let end = c.loop-user-test.false in
    let at = c.loop-user.auto.user-end in
    let value = c.mailboxes-user-end.ensures.value in
    let last = c.mailboxes.ensures.value in
    omega (arith, under, most, end, value, at, last)
