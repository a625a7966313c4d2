use Rattle.imap_session.proofs.Runs.{reaches_here}
use Rattle.imap_session.proofs.expunge.show_pending.Goals as goal

pub returns-in_default-clause-done : goal.returns-in_default-clause-done
returns-in_default-clause-done g c x tag now = rw c.in_default.is (reaches_here g.S.Store.step tag now x _ _)
