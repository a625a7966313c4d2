use Rattle.std.proofs.Common.{arith}
use Rattle.lane_work.proofs.ClosingLaws.{all_marked, none_marked}
use Rattle.lane_work.proofs.closing.mark_due.Goals as goal

pub loop-closing-init : goal.loop-closing-init
loop-closing-init c = none_marked c.args.connection c.args.directory.now

pub returns : goal.returns
returns c = all_marked c.args.connection c.args.closings.now c.loop-closing.closing-index c.args.directory.now c.loop-closing.directory (omega (arith, c.loop-closing-test.false, c.loop-closing.auto.closing-index-end)) c.loop-closing.invariant
