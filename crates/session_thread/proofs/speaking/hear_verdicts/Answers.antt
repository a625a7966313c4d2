use Rattle.std.proofs.Common.{refl, ◌∙◌, ◌++◌, ◌∷◌, []}
use Rattle.session_thread.proofs.Spoken.{fewer_verdicts, heard_none, heard_one, heard_same, more_carried, never_ok, none_more}
use Rattle.session_thread.proofs.speaking.hear_verdicts.Goals as goal

pub loop-connection-init : goal.loop-connection-init
loop-connection-init g c =
    (c.requires.ready, λ first h. h, refl, ([], none_more (g.C.Courier.carried c.args.courier.now), heard_none c.args.connection.now c.args.store.now (g.O.Outlet.said c.args.out.now)))

pub hear_verdict-requires-clause-ready : goal.hear_verdict-requires-clause-ready
hear_verdict-requires-clause-ready g c = c.loop-connection.invariant.0

pub loop-connection-smaller : goal.loop-connection-smaller
loop-connection-smaller g c =
    fewer_verdicts c.loop-connection.connection.session c.hear_verdict.new.connection.session.mailing.sent (c.awaits_verdict.ensures.yes c.loop-connection-test.true) c.in_ok-hear_verdict.ensures.follows

pub loop-connection-preserved : goal.loop-connection-preserved
loop-connection-preserved g c =
    let l = c.loop-connection in
    let v = l.invariant in
    let h = c.hear_verdict.new in
    let one = c.in_ok-hear_verdict.ensures.told in (
      c.in_ok-hear_verdict.ensures.ready,
      λ first k. c.in_ok-hear_verdict.ensures.kept first (v.1 first k),
      c.in_ok-hear_verdict.ensures.lot ∙ v.2,
      (
        v.3.0 ++ one.0 ∷ [],
        more_carried (g.C.Courier.carried c.args.courier.now) (g.C.Courier.carried l.courier) (g.C.Courier.carried h.courier) v.3.0 (one.0 ∷ []) v.3.1 one.1,
        heard_one v.3.0 one.0 c.args.store.now l.store h.store (g.O.Outlet.said c.args.out.now) (g.O.Outlet.said l.out) (g.O.Outlet.said h.out) c.args.connection.now l.connection h.connection one.2 v.3.2,
      ),
    )

pub returns-in_err-hear_verdict-clause-kept : goal.returns-in_err-hear_verdict-clause-kept
returns-in_err-hear_verdict-clause-kept g c = λ first k. c.in_err-hear_verdict.ensures.kept first (c.loop-connection.invariant.1 first k)

pub returns-in_err-hear_verdict-clause-told : goal.returns-in_err-hear_verdict-clause-told
returns-in_err-hear_verdict-clause-told g c =
    let l = c.loop-connection in
    let v = l.invariant in
    let h = c.hear_verdict.new in (
      v.3.0,
      never_ok c.from_residual.result _ c.from_residual.ensures.0,
      heard_same v.3.0 c.args.store.now l.store h.store (g.O.Outlet.said c.args.out.now) (g.O.Outlet.said l.out) (g.O.Outlet.said h.out) c.args.connection.now l.connection h.connection c.in_err-hear_verdict.ensures.same v.3.2,
    )

pub returns-clause-ready : goal.returns-clause-ready
returns-clause-ready g c = c.loop-connection.invariant.0

pub returns-clause-kept : goal.returns-clause-kept
returns-clause-kept g c = c.loop-connection.invariant.1

pub returns-clause-told : goal.returns-clause-told
returns-clause-told g c = c.loop-connection.invariant.3
