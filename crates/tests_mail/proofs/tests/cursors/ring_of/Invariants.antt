use Rattle.std.proofs.Common.{◌≡◌, ◌++◌, drop}
use Rattle.tests_mail.proofs.tests.cursors.ring_of.Given as goal

-- what was pushed, and what is left
abbrev pub invariant-loop-change : goal.invariant-loop-change
invariant-loop-change l = record {
  base : l.ring.base ≡ 0;
  changes : l.ring.changes ++ drop l.change-index l.changes ≡ l.changes;
}
