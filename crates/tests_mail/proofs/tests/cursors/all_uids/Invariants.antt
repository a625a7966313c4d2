use Rattle.std.proofs.Common.{◌≡◌, ◌++◌, drop}
use Rattle.change_ring.specs.Log.{added}
use Rattle.tests_mail.proofs.tests.cursors.all_uids.Given as goal

-- what was noted, and what is left
abbrev pub invariant-loop-change : goal.invariant-loop-change
invariant-loop-change l = l.all.items ++ added (drop l.change-index l.changes) ≡ l.uids ++ added l.changes
