use Rattle.std.proofs.Common.{refl, ◌∙◌, [], ◌++◌}
use Rattle.session_thread.specs.Life.{begins, moment}
use Rattle.session_thread.proofs.Living.{handed_on, lived_in_part, lived_on}
use Rattle.session_thread.proofs.Spoken.{more_carried, none_more}
use Rattle.session_thread.proofs.life.make_all.Goals as goal

pub loop-step-init : goal.loop-step-init
loop-step-init g c = (c.requires.ready, λ first h. h, refl, ([], none_more (g.C.Courier.carried c.args.courier.now), λ d s. (d, s, begins)))

pub returns-in_err-make-clause-err : goal.returns-in_err-make-clause-err
returns-in_err-make-clause-err g c =
    handed_on c.from_residual.result c.in_err-make.field-0.0 _ c.from_residual.ensures.1 λ d s.
    let v = c.loop-step.invariant in
    let t = v.3.2 d s in
    let n = c.in_err-make.ensures.err t.0 t.1 in (
      n.0,
      n.1,
      lived_in_part c.args.turns _ (moment d c.args.store.now (g.O.Outlet.said c.args.out.now)) c.args.steps.now c.loop-step.step-index c.step-item.result v.3.0 c.in_err-make.field-0.0 (moment t.0 c.loop-step.store (g.O.Outlet.said c.loop-step.out))
          (moment n.0 c.make.new.store (g.O.Outlet.said c.make.new.out)) c.loop-step-test.true c.step-item.is t.2 n.2 n.3,
    )

pub loop-step-preserved : goal.loop-step-preserved
loop-step-preserved g c =
    let v = c.loop-step.invariant in
    let m = c.in_ok-make.ensures.ok in (
      c.in_ok-make.ensures.ready,
      λ first k. c.in_ok-make.ensures.kept first (v.1 first k),
      c.in_ok-make.ensures.lot ∙ v.2,
      (
        v.3.0 ++ m.0,
        more_carried (g.C.Courier.carried c.args.courier.now) (g.C.Courier.carried c.loop-step.courier) (g.C.Courier.carried c.make.new.courier) v.3.0 m.0 v.3.1 m.1,
        λ d s.
            let t = v.3.2 d s in
            let n = m.2 t.0 t.1 in (
              n.0,
              n.1,
              lived_on c.args.turns (moment d c.args.store.now (g.O.Outlet.said c.args.out.now)) c.args.steps.now c.loop-step.step-index c.step-item.result v.3.0 m.0 (moment t.0 c.loop-step.store (g.O.Outlet.said c.loop-step.out)) (moment n.0 c.make.new.store (g.O.Outlet.said c.make.new.out))
                  c.loop-step-test.true c.step-item.is t.2 n.2,
            ),
      ),
    )
