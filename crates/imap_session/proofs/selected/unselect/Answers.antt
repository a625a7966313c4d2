use Rattle.imap_grammar.specs.declared.command.Command.TheVariants as commands
use Rattle.imap_session.specs.Commands.{completed}
use Rattle.imap_session.proofs.Ending.{moves_refused}
use Rattle.imap_session.proofs.selected.unselect.Goals as goal

pub returns-in_default : goal.returns-in_default
returns-in_default g c text tag now was = moves_refused g.S.Store.step c.args.selected.now _ _ text c.in_default.is tag now was

pub returns : goal.returns
returns g c response tag now was = rw c.in-Some.is (c.in_ok-leave_mailbox.ensures.done (completed commands.Unselect) response tag now was)
