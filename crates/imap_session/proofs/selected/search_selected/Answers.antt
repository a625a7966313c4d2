use Rattle.imap_session.specs.Commands.{says, wrong_state}
use Rattle.imap_session.proofs.Runs.{reaches_here}
use Rattle.imap_session.proofs.selected.search_selected.Goals as goal
use Rattle.imap_session.specs.declared.texts.ResponseText.TheVariants as texts
use Rattle.imap_session.specs.Texts.{response_text}

pub returns-in-None : goal.returns-in-None
returns-in-None g c tag now = rw c.in-None.is (reaches_here g.S.Store.step tag now wrong_state _ _)

pub returns-else-command : goal.returns-else-command
returns-else-command g c tag now = rw (c.in-Some.is, c.if-command.false) (reaches_here g.S.Store.step tag now (says (response_text texts.BadCharset)) _ _)
