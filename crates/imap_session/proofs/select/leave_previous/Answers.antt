use Rattle.std.proofs.Common.{rules, ◌≡◌, true, false, is_none}
use Rattle.std.proofs.lemmas.Result.{err_from_is_err_and}
use Rattle.imap_session.proofs.Runs.{stops_leave}
use Rattle.imap_session.proofs.Selecting.{reaches_unclosed, closing_some, moves_closed}
use Rattle.imap_session.proofs.select.leave_previous.Goals as goal

pub returns-then-is_none-clause-done : goal.returns-then-is_none-clause-done
returns-then-is_none-clause-done g c x tag now was =
    let none : is_none c.args.selected.now ≡ true = search rules in
    let none' : is_none now.selected ≡ true = rw was none in
    rw (← was) (reaches_unclosed g.S.Store.step tag now now.selected x _ _ none')

pub returns-in_err-leave-clause-done : goal.returns-in_err-leave-clause-done
returns-in_err-leave-clause-done g c x =
    let some : is_none c.args.selected.now ≡ false = search rules in
    let p = err_from_is_err_and c.from_residual.result c.from_residual.ensures.1 in
    rw (p.1, p.2) (λ tag now was.
    let some' : is_none now.selected ≡ false = rw was some in
    rw (← was) (rw (closing_some now.selected x some') (stops_leave g.S.Store.step tag now false _ _ _ _ _ c.in_err-leave.ensures)))

pub returns-clause-done : goal.returns-clause-done
returns-clause-done g c x =
    let some : is_none c.args.selected.now ≡ false = search rules in
    moves_closed g.S.Store.step c.args.selected.now x c.in_ok-leave.field-0 _ _ _ _ _ some c.in_ok-leave.ensures c.put_untagged.ensures
