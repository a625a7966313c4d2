use Rattle.std.proofs.Common.{arith, ap, length}
use Rattle.dot_stuffing.proofs.Runs.{occurs_here}
use Rattle.dot_stuffing.proofs.unstuffer.before_dot.Goals as goal

pub returns-in-Some-clause-none : goal.returns-in-Some-clause-none
returns-in-Some-clause-none c k h x y z =
    c.in-Some.ensures.0.before k (omega arith) (omega arith) (occurs_here c.args.piece.now c.args.finder.now k c.requires (omega (arith, c.in-Some.ensures.1.fits, h, ap length c.requires)) x y z)

pub returns-in-None-clause-none : goal.returns-in-None-clause-none
returns-in-None-clause-none c k h x y z =
    c.in-None.ensures k (omega arith) (omega arith) (occurs_here c.args.piece.now c.args.finder.now k c.requires h x y z)
