use Rattle.std.proofs.Common.{[], Ok}
use Rattle.std.proofs.lemmas.Result.{err_from_is_err_and}
use Rattle.imap_session.specs.Commands.{entering, opened}
use Rattle.imap_session.specs.inner.Store.{last}
use Rattle.imap_session.proofs.Naming.{entering_refused, entering_then, moves_holding, starves_write, tells_opening}
use Rattle.imap_session.proofs.Runs.{held_more}
use Rattle.imap_session.proofs.select.enter_folder.Goals as goal
use Rattle.imap_session.specs.declared.texts.ResponseText.{ResponseText}

pub returns-in_err-hold_opening : goal.returns-in_err-hold_opening
returns-in_err-hold_opening g c =
    let p = err_from_is_err_and c.from_residual.result c.from_residual.ensures.1 in
    rw (p.1, p.2) (λ tag now was. rw (← was) (starves_write g.S.Store.step tag now [] _ _ _ _ _ c.in_err-hold_opening.ensures.fault c.in_err-hold_opening.ensures.err))

pub returns-in_err-opening : goal.returns-in_err-opening
returns-in_err-opening g c =
    let p = err_from_is_err_and c.from_residual-in_err-opening.result c.from_residual-in_err-opening.ensures.1 in
    rw (p.1, p.2) (entering_refused {V = ResponseText} g.S.Store.step _ _ c.args.profile c.args.read_only c.args.folder.now c.mailbox.result c.name-name.result.now _ last _ _ c.args.response.now _
    c.mailbox.ensures c.name-name.ensures (held_more c.args.response.now c.hold_opening.new.self _ c.in_ok-hold_opening.ensures.held)
    (c.in_err-opening.ensures.done (opened c.args.profile c.args.read_only c.name-name.result.now) c.hold_opening.new.self))

pub returns : goal.returns
returns g c =
    moves_holding {V = ResponseText} g.S.Store.step _ _ (entering c.args.profile c.args.read_only c.args.folder.now) last _ _ c.args.response.now c.hold_opening.new.self _ (Ok c.entered_text.result)
    (held_more c.args.response.now c.hold_opening.new.self _ c.in_ok-hold_opening.ensures.held)
    (entering_then {V = ResponseText} g.S.Store.step _ _ c.args.profile c.args.read_only c.args.folder.now c.mailbox.result c.name-name.result.now c.in_ok-opening.opening last _ _ _ c.hold_opening.new.self _
    (Ok c.entered_text.result) c.mailbox.ensures c.name-name.ensures
    (c.in_ok-opening.ensures.done (opened c.args.profile c.args.read_only c.name-name.result.now) c.hold_opening.new.self)
    (tells_opening g.S.Store.step c.args.profile c.args.read_only c.name-name.result.now c.in_ok-opening.opening c.entered_text.result _ c.hold_opening.new.self c.put_opening.new.self c.tell_recent.new.response c.put_opening.ensures.adds c.tell_recent.ensures c.entered_text.ensures))
