use Rattle.std.proofs.Common.{sym, ◌∙◌}
use Rattle.imap_grammar.specs.declared.command.Command.TheVariants as commands
use Rattle.imap_session.specs.Commands.{completed}
use Rattle.imap_session.proofs.Lines.{says_done, says_not_done}
use Rattle.imap_session.proofs.turn.end_idle.Goals as goal

pub returns-then-not-is_done : goal.returns-then-not-is_done
returns-then-not-is_done g c tag now =
    says_not_done g.S.Store.step tag now c.args.selected c.args.line.now _ _ (sym c.is_done.ensures.exact ∙ c.if-not-is_done.true)

pub returns : goal.returns
returns g c tag now =
    says_done g.S.Store.step tag now c.args.selected c.args.line.now _ _ _ _ (sym c.is_done.ensures.exact ∙ c.if-not-is_done.false)
    (c.in_ok-show_pending.ensures.done (completed commands.Idle) tag now)
