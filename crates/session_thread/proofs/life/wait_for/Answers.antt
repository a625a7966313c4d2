use Rattle.std.proofs.Common.{refl, arith, sym, subst, ◌∙◌}
use Rattle.session_thread.specs.Life.{IsOver, Moment, Turns, moment, none}
use Rattle.session_thread.proofs.Living.{not_over, on_err, turned_on}
use Rattle.session_thread.proofs.life.wait_for.Goals as goal

pub loop-turn-init : goal.loop-turn-init
loop-turn-init g c = (refl, λ d s. (d, s, none))

pub returns-in_err-shown-clause-err : goal.returns-in_err-shown-clause-err
returns-in_err-shown-clause-err g c =
    on_err c.from_residual.result _ λ d s.
    let t = c.loop-turn.invariant.1 d s in
    let e = c.in_err-shown.ensures.err t.0 t.1 in
    let first : Moment = moment d c.args.store.now (g.O.Outlet.said c.args.out.now) in
    let due = not_over c.args.count t.0 c.loop-turn.store (g.O.Outlet.said c.loop-turn.out) c.loop-turn.connection t.1 (omega (arith, c.shown.ensures, c.if-shown-count.false)) (sym c.is_idling.ensures ∙ c.if-not-is_idling.false) in
    let had = subst (λ (m : Moment). Turns c.args.count first c.loop-turn._turn m × (IsOver c.args.count m → ⊥)) (sym e.1) (t.2, due) in
    (t.0, e.0, (c.loop-turn._turn, c.loop-turn-test.true, had.0, had.1), e.2)

pub loop-turn-preserved : goal.loop-turn-preserved
loop-turn-preserved g c = (
  c.in_ok-shown.ensures.lot ∙ c.loop-turn.invariant.0,
  λ d s.
      let t = c.loop-turn.invariant.1 d s in
      let n = c.in_ok-shown.ensures.ok t.0 t.1 in (
        n.0,
        n.1,
        turned_on c.args.count c.loop-turn._turn (moment d c.args.store.now (g.O.Outlet.said c.args.out.now)) t.0 n.0 c.loop-turn.store c.idle_turn.new.store (g.O.Outlet.said c.loop-turn.out) (g.O.Outlet.said c.idle_turn.new.out) c.loop-turn.connection t.1
            (omega (arith, c.shown.ensures, c.if-shown-count.false)) (sym c.is_idling.ensures ∙ c.if-not-is_idling.false) t.2 n.2.1.0,
      ),
)
