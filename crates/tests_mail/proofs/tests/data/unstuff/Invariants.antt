use Rattle.std.proofs.Common.{◌≡◌, None}
use Rattle.tests_mail.proofs.tests.data.unstuff.Given as goal

abbrev pub invariant-loop : goal.invariant-loop
invariant-loop l = l.unstuffer.outcome ≡ None
