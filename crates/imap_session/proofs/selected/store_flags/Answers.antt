use Rattle.imap_session.specs.Commands.{says, store_messages}
use Rattle.imap_session.proofs.Runs.{reaches_here}
use Rattle.imap_session.proofs.selected.store_flags.Goals as goal
use Rattle.imap_session.specs.Texts.{response_text}

pub returns-in-Some : goal.returns-in-Some
returns-in-Some g c tag now =
    rw (c.in-Some.ensures.refused (store_messages c.args.command.now)) (reaches_here g.S.Store.step tag now (says (response_text c.in-Some.text)) _ _)

pub returns-in-None : goal.returns-in-None
returns-in-None g c = rw (c.in-None.ensures.taken (store_messages c.args.command.now)) c.store_messages.ensures
