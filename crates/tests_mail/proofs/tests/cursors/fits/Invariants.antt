use Rattle.std.proofs.Common.{drop}
use Rattle.change_ring.specs.Log.{FitsView}
use Rattle.tests_mail.proofs.tests.cursors.fits.Given as goal

-- all fits if what is left does
abbrev pub invariant-loop-change : goal.invariant-loop-change
invariant-loop-change l = FitsView l.view.items (drop l.change-index l.changes) → FitsView l.uids l.changes
