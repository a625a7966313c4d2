use Rattle.std.proofs.Common.{None}
use Rattle.imap_grammar.specs.declared.command.Command.TheVariants as commands
use Rattle.imap_session.specs.Exchange.{Expunge, Feed}
use Rattle.imap_session.specs.Commands.{completed, says, unlimited}
use Rattle.imap_session.proofs.Runs.{reaches_here}
use Rattle.imap_session.proofs.selected.expunge.Goals as goal
use Rattle.imap_session.specs.Texts.{response_text}

pub returns-in-Some : goal.returns-in-Some
returns-in-Some g c tag now =
    rw (c.in-Some.ensures.refused (Expunge None (Feed unlimited (completed commands.Expunge)))) (reaches_here g.S.Store.step tag now (says (response_text c.in-Some.text)) _ _)

pub returns-in-None : goal.returns-in-None
returns-in-None g c = rw (c.in-None.ensures.taken (Expunge None (Feed unlimited (completed commands.Expunge)))) c.expunge_all.ensures
