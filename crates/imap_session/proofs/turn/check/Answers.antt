use Rattle.imap_grammar.specs.declared.command.Command.TheVariants as commands
use Rattle.imap_session.specs.Commands.{completed}
use Rattle.imap_session.proofs.turn.check.Goals as goal

pub returns : goal.returns
returns g c = c.in_ok-show_pending.ensures.done (completed commands.Check)
