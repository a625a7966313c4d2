use Rattle.std.proofs.Common.{◌≡◌}
use Rattle.tests_streams.proofs.tests.houses.make_mailboxes.Given as goal

abbrev pub invariant-loop-number : goal.invariant-loop-number
invariant-loop-number g l = l.parts ≡ l.number
