use Rattle.std.proofs.Common.{Err, ◌∙◌}
use Rattle.std.proofs.lemmas.Result.{err_from_is_err_and}
use Rattle.mailbox.specs.declared.clients.MailFault.TheVariants.{NoMemory}
use Rattle.imap_session.specs.Exchange.{Exchange}
use Rattle.imap_session.specs.Commands.{closing, entering, on_folder, wanting}
use Rattle.imap_session.specs.inner.Store.{last}
use Rattle.imap_session.proofs.Naming.{moves_then, selects, starves_wanting}
use Rattle.imap_session.proofs.select.select_mailbox.Goals as goal
use Rattle.imap_session.specs.declared.texts.ResponseText.{ResponseText}

pub returns-in_err-leave_previous : goal.returns-in_err-leave_previous
returns-in_err-leave_previous g c =
    let rest : Exchange = wanting (on_folder c.args.name.now c.args.folders.now (entering c.args.profile c.args.read_only)) in
    let p = err_from_is_err_and c.from_residual.result c.from_residual.ensures.1 in
    rw (p.1, p.2) (c.in_err-leave_previous.ensures.done rest)

pub returns-in_err-name : goal.returns-in_err-name
returns-in_err-name g c =
    let rest : Exchange = wanting (on_folder c.args.name.now c.args.folders.now (entering c.args.profile c.args.read_only)) in
    let p = err_from_is_err_and c.from_residual-in_err-name.result c.from_residual-in_err-name.ensures.1 in
    rw (p.1, p.2) (moves_then {V = ResponseText} g.S.Store.step _ _ _ (closing c.args.selected.now rest) rest last _ _ _ _ _ _ (Err NoMemory)
    (c.in_ok-leave_previous.ensures.done rest) (starves_wanting {V = ResponseText} g.S.Store.step _ _ last _ _))

pub returns : goal.returns
returns g c =
    selects g.S.Store.step _ _ _ c.args.profile c.args.folders.now c.args.read_only c.args.name.now c.as_slice-name.result.now last _ _ _ _ _ _ c.enter_named.result
    (c.as_slice-name.ensures.value ∙ c.in_ok-name.ensures) c.in_ok-leave_previous.ensures.done c.enter_named.ensures
