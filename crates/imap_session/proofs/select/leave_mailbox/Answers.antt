use Rattle.std.proofs.lemmas.Result.{err_from_is_err_and}
use Rattle.imap_session.proofs.Runs.{reaches_leave, stops_leave}
use Rattle.imap_session.proofs.select.leave_mailbox.Goals as goal

pub returns-in_err-leave-clause-done : goal.returns-in_err-leave-clause-done
returns-in_err-leave-clause-done g c x text =
    let p = err_from_is_err_and c.from_residual.result c.from_residual.ensures.1 in
    rw (p.1, p.2) (λ tag now was. rw (← was) (stops_leave g.S.Store.step tag now c.args.remove x _ _ _ text c.in_err-leave.ensures))

pub returns-clause-done : goal.returns-clause-done
returns-clause-done g c x text tag now was = reaches_leave g.S.Store.step tag now c.args.remove x c.in_ok-leave.field-0 _ _ text c.in_ok-leave.ensures
