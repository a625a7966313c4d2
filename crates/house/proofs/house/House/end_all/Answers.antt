use Rattle.std.proofs.Common.{◌≡◌, ◌+◌, ◌<◌, length, ap, ◌∙◌, arith, refl}
use Rattle.house.specs.House.{House}
use Rattle.house.proofs.Closing.{ends_done, ends_step, ends_wants}
use Rattle.house.proofs.Settlement.{visits_wanting}
use Rattle.house.proofs.house.House.end_all.Goals as goal

pub returns-in_err-one-clause-came : goal.returns-in_err-one-clause-came
returns-in_err-one-clause-came c =
    let many = ap (λ (x : House). length x.callers) c.self.view_is in
    let more = ap (λ (x : House). length x.visitors) c.self.view_is in
    let e = c.len.ensures in
    let f = c.len-2.ensures in
    let t = c.loop-seat-test.true in
    let l : c.loop-seat.seat < (length c.args.self.now.callers + length c.args.self.now.visitors) = omega (arith, t, e, f, many, more) in
    visits_wanting _ c.from_residual.result c.from_residual.ensures.0 (ends_wants ((length c.args.self.now.callers + length c.args.self.now.visitors)) c.loop-seat.seat c.args.shard c.args.self.now c.args.out.now.items c.loop-seat.self c.loop-seat.out.items c.stint.new.self c.stint.new.out.items c.loop-seat.moved
    l refl c.loop-seat.invariant.1 c.in_err-one.ensures.came)

pub loop-seat-preserved : goal.loop-seat-preserved
loop-seat-preserved c =
    let many = ap (λ (x : House). length x.callers) c.self.view_is in
    let more = ap (λ (x : House). length x.visitors) c.self.view_is in
    let e = c.len.ensures in
    let f = c.len-2.ensures in
    let t = c.loop-seat-test.true in
    let l : c.loop-seat.seat < (length c.args.self.now.callers + length c.args.self.now.visitors) = omega (arith, t, e, f, many, more) in (
      c.in_ok-one.ensures.marks ∙ c.loop-seat.invariant.0,
      ends_step ((length c.args.self.now.callers + length c.args.self.now.visitors)) c.loop-seat.seat c.args.shard c.args.self.now c.args.out.now.items c.loop-seat.self c.loop-seat.out.items c.stint.new.self c.stint.new.out.items c.loop-seat.moved c.in_ok-one.one
          l c.loop-seat.invariant.1 c.in_ok-one.ensures.came,
    )

pub returns-clause-came : goal.returns-clause-came
returns-clause-came c =
    let many = ap (λ (x : House). length x.callers) c.self.view_is in
    let more = ap (λ (x : House). length x.visitors) c.self.view_is in
    let e = c.len.ensures in
    let f = c.len-2.ensures in
    let t = c.loop-seat-test.false in
    let u = c.loop-seat.auto.seat-end in
    let n : c.loop-seat.seat ≡ (length c.args.self.now.callers + length c.args.self.now.visitors) = omega (arith, t, u, e, f, many, more) in
    ends_done ((length c.args.self.now.callers + length c.args.self.now.visitors)) c.loop-seat.seat c.args.shard c.args.self.now c.args.out.now.items c.loop-seat.self c.loop-seat.out.items c.loop-seat.moved n refl c.loop-seat.invariant.1
