use Rattle.workers_sync.specs.declared.courier.Lost.TheVariants as lost
use Rattle.imap_stream.specs.Visits.{within_bytes}
use Rattle.session_thread.proofs.Living.{handed_on}
use Rattle.imap_stream.proofs.Showing.{heard, heard_in_part}
use Rattle.imap_stream.proofs.turns.answer_and_show.Goals as goal

pub returns-in_err-answered-clause-err : goal.returns-in_err-answered-clause-err
returns-in_err-answered-clause-err g c =
    handed_on c.from_residual.result c.in_err-answered.field-0.0 _ c.from_residual.ensures.1 λ d s. let e = c.in_err-answered.ensures.err d s in (e.0, e.1, within_bytes e.2)

pub returns-clause-ok : goal.returns-clause-ok
returns-clause-ok g c =
    let a = c.answer-answered.new in
    let t = c.show_all.new in
    let s = c.in_ok-answered.ensures.ok in (
      s.0,
      s.1,
      heard c.args.piece.now s.0 c.args.store.now a.store t.store (g.O.Outlet.said c.args.out.now) (g.O.Outlet.said a.out) (g.O.Outlet.said t.out) c.args.connection.now a.connection t.connection s.2 c.in_ok-show_all.ensures.ok,
    )

pub returns-in_err-show_all-clause-err : goal.returns-in_err-show_all-clause-err
returns-in_err-show_all-clause-err g c =
    let a = c.answer-answered.new in
    let t = c.show_all.new in
    let s = c.in_ok-answered.ensures.ok in
    handed_on c.from_residual-in_err-show_all.result lost.NoMemory _ c.from_residual-in_err-show_all.ensures.1
    (heard_in_part (g.O.Outlet.room t.out) c.args.piece.now s.0 c.args.store.now a.store t.store (g.O.Outlet.said c.args.out.now) (g.O.Outlet.said a.out) (g.O.Outlet.said t.out) c.args.connection.now a.connection t.connection s.2 c.in_err-show_all.ensures.err)
