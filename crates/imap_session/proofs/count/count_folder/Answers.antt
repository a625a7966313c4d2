use Rattle.std.proofs.Common.{Err}
use Rattle.std.proofs.lemmas.Result.{err_from_is_err_and}
use Rattle.imap_session.specs.Exchange.{Exchange, Write}
use Rattle.imap_session.specs.Commands.{showing}
use Rattle.mailbox.specs.declared.mailbox.Status.{Status}
use Rattle.imap_answers.specs.Answers.{status_answer}
use Rattle.imap_session.proofs.Naming.{counts_then, refuses_count, starves_write, writes_then}
use Rattle.imap_session.proofs.count.count_folder.Goals as goal

pub returns-in_err-status : goal.returns-in_err-status
returns-in_err-status g c x =
    let p = err_from_is_err_and c.from_residual.result c.from_residual.ensures.1 in
    rw (p.1, p.2) (λ tag now. refuses_count g.S.Store.step tag now c.mailbox.result c.args.folder.now.mailbox _ _ _ _ _ c.mailbox.ensures c.in_err-status.ensures.event)

pub returns-in_err-write_counted : goal.returns-in_err-write_counted
returns-in_err-write_counted g c x =
    let next : Status → Exchange = λ status. Write (status_answer c.args.folder.now.name c.args.items.now status) (showing c.args.selected x) in
    let p = err_from_is_err_and c.from_residual-in_err-write_counted.result c.from_residual-in_err-write_counted.ensures.1 in
    rw (p.1, p.2) (counts_then g.S.Store.step c.mailbox.result c.args.folder.now.mailbox next c.in_ok-status.status (λ (u : Unit {0}). x) _ _ _ _ _ (Err _)
    c.mailbox.ensures c.in_ok-status.ensures.event
    (λ tag now. starves_write g.S.Store.step tag now _ _ _ _ _ _ c.in_err-write_counted.ensures.fault c.in_err-write_counted.ensures.err))

pub returns : goal.returns
returns g c x =
    let next : Status → Exchange = λ status. Write (status_answer c.args.folder.now.name c.args.items.now status) (showing c.args.selected x) in
    counts_then g.S.Store.step c.mailbox.result c.args.folder.now.mailbox next c.in_ok-status.status (λ u. x) _ _ _ _ _ c.show_pending.result
    c.mailbox.ensures c.in_ok-status.ensures.event
    (writes_then g.S.Store.step _ _ (λ u. x) _ _ _ _ _ c.show_pending.result (rw c.name.ensures at c.in_ok-write_counted.ensures.text)
    (c.show_pending.ensures.done x))
