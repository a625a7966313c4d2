use Rattle.imap_session.specs.Commands.{wrong_state}
use Rattle.imap_session.proofs.Runs.{reaches_here}
use Rattle.imap_session.proofs.selected.fetch.Goals as goal

pub returns-in-None : goal.returns-in-None
returns-in-None g c tag now = rw c.in-None.is (reaches_here g.S.Store.step tag now wrong_state _ _)

pub returns-in-Some : goal.returns-in-Some
returns-in-Some g c = rw (c.in-Some.is, ← c.sets_seen-mark_seen.ensures) c.fetch_messages.ensures
