use Rattle.std.proofs.Common.{◌≡◌, Option, Some, None, ap, false}
use Rattle.std.proofs.lemmas.Result.{err_from_is_err_and}
use Rattle.mailbox.specs.declared.clients.Row.{Row}
use Rattle.imap_grammar.specs.Sets.{named_at}
use Rattle.imap_grammar.specs.declared.view.Named.{Named}
use Rattle.imap_session.specs.Exchange.{Exchange}
use Rattle.imap_session.specs.Commands.{found_in, on_found}
use Rattle.imap_session.proofs.Runs.{reaches_read, stops_read}
use Rattle.imap_session.proofs.search.search_one.Goals as goal

pub returns-in_err-row : goal.returns-in_err-row
returns-in_err-row g c response view uid is next gone none =
    let same : c.args.message.uid ≡ uid = ap (λ (m : Named). m.uid) is in
    let p = err_from_is_err_and c.from_residual.result c.from_residual.ensures.1 in
    rw (p.1, p.2) (λ tag now. stops_read g.S.Store.step tag now uid false _ _ _ _ _ (rw same at c.in_err-row.ensures))

pub returns-in_default : goal.returns-in_default
returns-in_default g c response view uid is next gone none tag now =
    let same : c.args.message.uid ≡ uid = ap (λ (m : Named). m.uid) is in
    rw (← none) (reaches_read g.S.Store.step tag now uid false _ None _ _ _ (rw (same, c.in_default.is) at c.in_ok-row.ensures))

pub returns : goal.returns
returns g c response view uid is next gone none tag now =
    let same : c.args.message.uid ≡ uid = ap (λ (m : Named). m.uid) is in
    let after : Option Row → Exchange = on_found (λ row. next (found_in c.args.search.now c.args.last (named_at view uid) row)) gone in
    rw (c.found_in.ensures, is) (reaches_read g.S.Store.step tag now uid false after (Some c.in-Some.row) _ _ _ (rw (same, c.in-Some.is) at c.in_ok-row.ensures))
