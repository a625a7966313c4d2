use Rattle.std.proofs.lemmas.Result.{err_from_is_err_and}
use Rattle.imap_session.proofs.Runs.{reaches_enter, stops_enter}
use Rattle.imap_session.proofs.select.enter_mailbox.Goals as goal

pub returns-in_err-opening-clause-done : goal.returns-in_err-opening-clause-done
returns-in_err-opening-clause-done g c next text =
    let p = err_from_is_err_and c.from_residual.result c.from_residual.ensures.1 in
    rw (p.1, p.2) (λ tag now was. rw (← was) (stops_enter g.S.Store.step tag now c.args.wanted next _ _ _ text c.in_err-opening.ensures))

pub returns-clause-done : goal.returns-clause-done
returns-clause-done g c next text tag now was = reaches_enter g.S.Store.step tag now c.args.wanted next c.in_ok-opening.opening _ _ text c.in_ok-opening.ensures
