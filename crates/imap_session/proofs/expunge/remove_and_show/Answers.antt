use Rattle.std.proofs.lemmas.Result.{err_from_is_err_and}
use Rattle.imap_session.specs.Exchange.{Feed}
use Rattle.imap_session.specs.Commands.{unlimited}
use Rattle.imap_session.proofs.Runs.{reaches_then, stops_then}
use Rattle.imap_session.proofs.expunge.remove_and_show.Goals as goal

pub returns-in_err-show : goal.returns-in_err-show
returns-in_err-show g c x =
    let p = err_from_is_err_and c.from_residual-in_err-show.result c.from_residual-in_err-show.ensures.1 in
    rw (p.1, p.2) (λ tag now. stops_then g.S.Store.step tag now now now _ (Feed unlimited x) _ _ _ _ _ _ _
    (c.in_ok-purge.ensures (Feed unlimited x) tag now) (c.in_err-show.ensures.done x tag now))

pub returns : goal.returns
returns g c x tag now =
    reaches_then g.S.Store.step tag now now now _ (Feed unlimited x) x _ _ _ _ _ _
    (c.in_ok-purge.ensures (Feed unlimited x) tag now) (c.in_ok-show.ensures.done x tag now)
