use Rattle.std.proofs.Common.{rules}
use Rattle.running_house.proofs.RefusalLaws.{stood_behind}
use Rattle.running_house.proofs.refusals.came_behind.Goals as goal

pub returns-then-has_key : goal.returns-then-has_key
returns-then-has_key c told =
    stood_behind c.args.count c.accepted_among.result c.args.mailbox c.args.key.now c.args.accepted.now c.args.taken.now c.loop-index.index c.index-taken-index.result c.loop-index-test.true
    c.index-taken-index.is (search rules) (search rules) (search rules) (search rules)
