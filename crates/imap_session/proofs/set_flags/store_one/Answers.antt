use Rattle.std.proofs.Common.{◌≡◌, ap, None}
use Rattle.std.proofs.lemmas.Result.{err_from_is_err_and}
use Rattle.imap_grammar.specs.declared.view.Named.{Named}
use Rattle.imap_session.proofs.Runs.{reaches_alter, stops_alter}
use Rattle.imap_session.proofs.Storing.{alters_there, alters_starved}
use Rattle.imap_session.proofs.set_flags.store_one.Goals as goal

pub returns-in_err-flags : goal.returns-in_err-flags
returns-in_err-flags g c view uid is x y =
    let same : c.args.message.uid ≡ uid = ap (λ (m : Named). m.uid) is in
    let p = err_from_is_err_and c.from_residual.result c.from_residual.ensures.1 in
    rw (p.1, p.2) (λ tag now. stops_alter g.S.Store.step tag now uid _ _ _ _ _ _ (rw same at c.in_err-flags.ensures))

pub returns-in_default : goal.returns-in_default
returns-in_default g c view uid is x y tag now =
    let same : c.args.message.uid ≡ uid = ap (λ (m : Named). m.uid) is in
    reaches_alter g.S.Store.step tag now uid _ _ None _ _ _ (rw (same, c.in_default.is) at c.in_ok-flags.ensures)

pub returns-in_err-write_changed : goal.returns-in_err-write_changed
returns-in_err-write_changed g c view uid is x y =
    let same : c.args.message.uid ≡ uid = ap (λ (m : Named). m.uid) is in
    let p = err_from_is_err_and c.from_residual-in_err-write_changed.result c.from_residual-in_err-write_changed.ensures.1 in
    rw (p.1, p.2) (λ tag now. alters_starved g.S.Store.step tag now c.args.command.now view uid x y c.in-Some.flags _ _ _ _ _
    (rw (same, c.in-Some.is) at c.in_ok-flags.ensures) c.in_err-write_changed.ensures.fault c.in_err-write_changed.ensures.told c.in_err-write_changed.ensures.err)

pub returns : goal.returns
returns g c view uid is x y tag now =
    let same : c.args.message.uid ≡ uid = ap (λ (m : Named). m.uid) is in
    alters_there g.S.Store.step tag now c.args.command.now view uid x y c.in-Some.flags _ _ _ _
    (rw (same, c.in-Some.is) at c.in_ok-flags.ensures) (rw is at c.in_ok-write_changed.ensures.text)
