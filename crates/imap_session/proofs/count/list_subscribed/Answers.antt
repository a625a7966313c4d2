use Rattle.std.proofs.Common.{Ok, Err}
use Rattle.std.proofs.lemmas.Result.{err_from_is_err_and}
use Rattle.imap_grammar.specs.declared.command.Command.TheVariants as commands
use Rattle.imap_session.specs.Commands.{completed, showing}
use Rattle.imap_session.specs.inner.Store.{last}
use Rattle.imap_session.proofs.Naming.{starves_write, writes_then}
use Rattle.imap_session.proofs.count.list_subscribed.Goals as goal
use Rattle.imap_session.specs.declared.texts.ResponseText.{ResponseText}

pub returns-in_err-write_names : goal.returns-in_err-write_names
returns-in_err-write_names g c =
    let p = err_from_is_err_and c.from_residual.result c.from_residual.ensures.1 in
    rw (p.1, p.2) (λ tag now. starves_write g.S.Store.step tag now _ _ _ _ _ _ c.in_err-write_names.ensures.fault c.in_err-write_names.ensures.err)

pub returns-in_err-show_pending : goal.returns-in_err-show_pending
returns-in_err-show_pending g c =
    let listed = completed (commands.Lsub c.args.reference.now c.args.pattern.now) in
    let p = err_from_is_err_and c.from_residual-in_err-show_pending.result c.from_residual-in_err-show_pending.ensures.1 in
    rw (p.1, p.2) (writes_then {V = ResponseText} g.S.Store.step _ (showing c.args.selected listed) last _ _ _ _ _ (Err _) c.in_ok-write_names.ensures.text
    (c.in_err-show_pending.ensures.done listed))

pub returns : goal.returns
returns g c =
    let listed = completed (commands.Lsub c.args.reference.now c.args.pattern.now) in
    writes_then g.S.Store.step _ (showing c.args.selected listed) (λ (u : Unit {0}). listed) _ _ _ _ _ (Ok tt) c.in_ok-write_names.ensures.text (c.in_ok-show_pending.ensures.done listed)
