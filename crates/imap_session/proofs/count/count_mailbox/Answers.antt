use Rattle.std.proofs.Common.{◌≡◌, [], ◌∙◌}
use Rattle.std.proofs.lemmas.Result.{err_from_is_err_and}
use Rattle.imap_session.specs.inner.Store.{last}
use Rattle.imap_session.proofs.Runs.{stops_write}
use Rattle.imap_session.proofs.Naming.{does_wanting}
use Rattle.imap_session.proofs.count.count_mailbox.Goals as goal

pub returns-in_err-name : goal.returns-in_err-name
returns-in_err-name g c =
    let p = err_from_is_err_and c.from_residual.result c.from_residual.ensures.1 in
    rw (p.1, p.2) (λ tag now. stops_write g.S.Store.step tag now [] _ _ _)

pub returns : goal.returns
returns g c =
    let named : c.as_slice.result.now ≡ c.args.name.now = c.as_slice.ensures.value ∙ c.in_ok-name.ensures in
    does_wanting g.S.Store.step _ last _ _ _ _ c.count_named.result (rw named at c.count_named.ensures)
