use Rattle.std.proofs.Common.{◌≡◌, ap, None}
use Rattle.std.proofs.lemmas.Result.{err_from_is_err_and}
use Rattle.imap_grammar.specs.declared.view.Named.{Named}
use Rattle.imap_session.proofs.Runs.{reaches_read, stops_read}
use Rattle.imap_session.proofs.Fetching.{reads_there, reads_starved}
use Rattle.imap_session.proofs.fetch.fetch_one.Goals as goal

pub returns-in_err-row : goal.returns-in_err-row
returns-in_err-row g c view uid is x y =
    let same : c.args.message.uid ≡ uid = ap (λ (m : Named). m.uid) is in
    let p = err_from_is_err_and c.from_residual.result c.from_residual.ensures.1 in
    rw (p.1, p.2) (λ tag now. stops_read g.S.Store.step tag now uid c.args.mark_seen _ _ _ _ _ (rw same at c.in_err-row.ensures))

pub returns-in_default : goal.returns-in_default
returns-in_default g c view uid is x y tag now =
    let same : c.args.message.uid ≡ uid = ap (λ (m : Named). m.uid) is in
    reaches_read g.S.Store.step tag now uid c.args.mark_seen _ None _ _ _ (rw (same, c.in_default.is) at c.in_ok-row.ensures)

pub returns-in_err-write_fetched : goal.returns-in_err-write_fetched
returns-in_err-write_fetched g c view uid is x y =
    let same : c.args.message.uid ≡ uid = ap (λ (m : Named). m.uid) is in
    let p = err_from_is_err_and c.from_residual-in_err-write_fetched.result c.from_residual-in_err-write_fetched.ensures.1 in
    rw (p.1, p.2) (λ tag now. reads_starved g.S.Store.step tag now uid c.args.mark_seen _ x y c.in-Some.row _ _ _ _ _
    (rw (same, c.in-Some.is) at c.in_ok-row.ensures) c.in_err-write_fetched.ensures.fault c.in_err-write_fetched.ensures.err)

pub returns : goal.returns
returns g c view uid is x y tag now =
    let same : c.args.message.uid ≡ uid = ap (λ (m : Named). m.uid) is in
    reads_there g.S.Store.step tag now uid c.args.mark_seen _ x y c.in-Some.row _ _ _ _
    (rw (same, c.in-Some.is) at c.in_ok-row.ensures) (rw (is, c.requires.items) at c.in_ok-write_fetched.ensures.text)
