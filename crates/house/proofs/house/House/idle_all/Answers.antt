use Rattle.std.proofs.Common.{◌<◌, length, ap, arith, refl}
use Rattle.house.specs.House.{House}
use Rattle.house.proofs.IdleSettling.{all_sessions, session_more, session_wants}
use Rattle.house.proofs.Settlement.{on_err}
use Rattle.house.proofs.house.House.idle_all.Goals as goal

pub returns-in_err-idle_out-clause-err : goal.returns-in_err-idle_out-clause-err
returns-in_err-idle_out-clause-err c =
    let many = ap (λ (x : House). length x.visitors) c.self.view_is in
    let e = c.len-sessions.ensures in
    let t = c.loop-place-test.true in
    let l : c.loop-place.place < length c.args.self.now.visitors = omega (arith, t, e, many) in
    on_err c.from_residual.result _ (session_wants (length c.args.self.now.visitors) c.loop-place.place c.args.self.now c.args.out.now.items c.loop-place.self c.loop-place.out.items c.idle_out.new.self c.idle_out.new.out.items refl l c.loop-place.invariant
    c.in_err-idle_out.ensures.err)

pub loop-place-preserved : goal.loop-place-preserved
loop-place-preserved c =
    let many = ap (λ (x : House). length x.visitors) c.self.view_is in
    let e = c.len-sessions.ensures in
    let t = c.loop-place-test.true in
    let l : c.loop-place.place < length c.args.self.now.visitors = omega (arith, t, e, many) in
    session_more (length c.args.self.now.visitors) c.loop-place.place c.args.self.now c.args.out.now.items c.loop-place.self c.loop-place.out.items c.idle_out.new.self c.idle_out.new.out.items l c.loop-place.invariant c.in_ok-idle_out.ensures.ok

pub returns-clause-ok : goal.returns-clause-ok
returns-clause-ok c =
    let many = ap (λ (x : House). length x.visitors) c.self.view_is in
    let e = c.len-sessions.ensures in
    let t = c.loop-place-test.false in
    let u = c.loop-place.auto.place-end in
    all_sessions (length c.args.self.now.visitors) c.loop-place.place c.args.self.now c.args.out.now.items c.loop-place.self c.loop-place.out.items refl (omega (arith, t, u, e, many)) c.loop-place.invariant
