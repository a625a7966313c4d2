use Rattle.cursor_set.proofs.KnownLaws.{IsKnownTo}
use Rattle.tests_mail.proofs.tests.cursors.feed_each.Given as goal

abbrev pub invariant-loop-limit : goal.invariant-loop-limit
invariant-loop-limit l = IsKnownTo l.set l.handle l.ring
