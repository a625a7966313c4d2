use Rattle.std.proofs.Common.{◌≡◌}
use Rattle.tests_mail.proofs.tests.outlets.say.Given as goal

abbrev pub invariant-loop-piece : goal.invariant-loop-piece
invariant-loop-piece g l = g.O.Outlet.lot l.out ≡ g.O.Outlet.lot l.fn.out
