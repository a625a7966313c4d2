use Rattle.imap_session.specs.Commands.{expunge_set, says}
use Rattle.imap_session.proofs.Runs.{reaches_here}
use Rattle.imap_session.proofs.selected.uid_expunge.Goals as goal
use Rattle.imap_session.specs.Texts.{response_text}

pub returns-in-Some : goal.returns-in-Some
returns-in-Some g c tag now =
    rw (c.in-Some.ensures.refused (expunge_set c.args.set.now)) (reaches_here g.S.Store.step tag now (says (response_text c.in-Some.text)) _ _)

pub returns-in-None : goal.returns-in-None
returns-in-None g c = rw (c.in-None.ensures.taken (expunge_set c.args.set.now)) c.expunge_set.ensures
