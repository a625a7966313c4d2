use Rattle.std.proofs.Common.{◌∙◌}
use Rattle.house.proofs.Settlement.{came_wanting, often_again, often_wants, stint_done}
use Rattle.house.proofs.house.House.stint.Goals as goal

pub returns-in_err-more-clause-came : goal.returns-in_err-more-clause-came
returns-in_err-more-clause-came c =
    came_wanting _ _ _ c.from_residual.result c.from_residual.ensures.0 (often_wants c.args.group.now c.args.self.now c.args.out.now.items c.loop-more.self c.loop-more.out.items c.try_each.new.self c.try_each.new.out.items c.loop-more.moved c.loop-more.invariant.1 c.in_err-more.ensures.came)

pub returns-then-not-more-clause-came : goal.returns-then-not-more-clause-came
returns-then-not-more-clause-came c =
    stint_done c.args.group.now c.args.self.now c.args.out.now.items c.loop-more.self c.loop-more.out.items c.try_each.new.self c.try_each.new.out.items c.loop-more.moved c.in_ok-more.more c.if-not-more.true c.loop-more.invariant.1 c.in_ok-more.ensures.came

pub loop-more-preserved : goal.loop-more-preserved
loop-more-preserved c =
    (c.in_ok-more.ensures.marks ∙ c.loop-more.invariant.0, often_again c.args.group.now c.args.self.now c.args.out.now.items c.loop-more.self c.loop-more.out.items c.try_each.new.self c.try_each.new.out.items c.loop-more.moved c.in_ok-more.more c.if-not-more.false c.loop-more.invariant.1 c.in_ok-more.ensures.came)
