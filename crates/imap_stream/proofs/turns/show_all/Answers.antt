use Rattle.std.proofs.Common.{arith, refl, sym, ◌∙◌}
use Rattle.session_thread.specs.Life.{moment}
use Rattle.imap_stream.specs.Visits.{another, nothing_yet}
use Rattle.session_thread.proofs.Living.{on_err}
use Rattle.imap_stream.proofs.Showing.{shows_all, shows_in_part}
use Rattle.imap_stream.proofs.turns.show_all.Goals as goal

pub loop-turn-init : goal.loop-turn-init
loop-turn-init g c = (refl, λ d s. (d, s, nothing_yet))

pub returns-in_err-shown-clause-err : goal.returns-in_err-shown-clause-err
returns-in_err-shown-clause-err g c =
    on_err c.from_residual.result _ λ d s.
    let t = c.loop-turn.invariant.1 d s in
    let e = c.in_err-shown.ensures.err t.0 t.1 in (
      t.0,
      e.0,
      shows_in_part _ (moment d c.args.store.now (g.O.Outlet.said c.args.out.now)) t.0 c.loop-turn.store c.idle_turn.new.store (g.O.Outlet.said c.loop-turn.out) (g.O.Outlet.said c.idle_turn.new.out) c.loop-turn.connection t.1 (sym c.is_idling.ensures ∙ c.if-not-is_idling.false) t.2 e.1 e.2,
    )

pub returns-then-shown-eq0-clause-ok : goal.returns-then-shown-eq0-clause-ok
returns-then-shown-eq0-clause-ok g c d s =
    let t = c.loop-turn.invariant.1 d s in
    let n = c.in_ok-shown.ensures.ok t.0 t.1 in (
      n.0,
      n.1,
      shows_all c.in_ok-shown.shown (moment d c.args.store.now (g.O.Outlet.said c.args.out.now)) (moment t.0 c.loop-turn.store (g.O.Outlet.said c.loop-turn.out)) (moment n.0 c.idle_turn.new.store (g.O.Outlet.said c.idle_turn.new.out)) t.2 n.2 c.if-shown-eq0.true,
    )

pub loop-turn-preserved : goal.loop-turn-preserved
loop-turn-preserved g c = (
  c.idle_turn.ensures.lot ∙ c.loop-turn.invariant.0,
  λ d s.
      let t = c.loop-turn.invariant.1 d s in
      let n = c.in_ok-shown.ensures.ok t.0 t.1 in (
        n.0,
        n.1,
        another c.in_ok-shown.shown (moment t.0 c.loop-turn.store (g.O.Outlet.said c.loop-turn.out)) (moment n.0 c.idle_turn.new.store (g.O.Outlet.said c.idle_turn.new.out)) t.2 (omega (arith, c.if-shown-eq0.false)) n.2,
      ),
)

pub returns-then-not-is_idling-clause-lot : goal.returns-then-not-is_idling-clause-lot
returns-then-not-is_idling-clause-lot g c = c.loop-turn.invariant.0

pub returns-in_err-shown-clause-lot : goal.returns-in_err-shown-clause-lot
returns-in_err-shown-clause-lot g c = c.idle_turn.ensures.lot ∙ c.loop-turn.invariant.0

pub returns-then-shown-eq0-clause-lot : goal.returns-then-shown-eq0-clause-lot
returns-then-shown-eq0-clause-lot g c = c.idle_turn.ensures.lot ∙ c.loop-turn.invariant.0
