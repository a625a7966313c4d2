use Rattle.std.proofs.Common.{◌≡◌, ◌+◌, ◌<◌, ℕ, length, ap, sym, ◌∙◌, arith, refl, [], ◌∷◌}
use Rattle.house.specs.declared.event.Event.TheVariants.{Hear}
use Rattle.house.specs.House.{House}
use Rattle.house.specs.inner.Trying.{hears}
use Rattle.house.proofs.Settlement.{hear_among, seats_step, seats_wants, stints_as, visits_wanting}
use Rattle.house.proofs.house.House.hear_all.Goals as goal

pub returns-in_err-one-clause-came : goal.returns-in_err-one-clause-came
returns-in_err-one-clause-came c =
    let many = ap (λ (x : House). length x.callers) c.self.view_is in
    let more = ap (λ (x : House). length x.visitors) c.self.view_is in
    let e = c.len.ensures in
    let f = c.len-2.ensures in
    let t = c.loop-seat-test.true in
    let l : c.loop-seat.seat < (length c.args.self.now.callers + length c.args.self.now.visitors) = omega (arith, t, e, f, many, more) in
    visits_wanting _ c.from_residual.result c.from_residual.ensures.0 (seats_wants (λ n. Hear n ∷ []) ((length c.args.self.now.callers + length c.args.self.now.visitors)) c.loop-seat.seat c.args.self.now c.args.out.now.items c.loop-seat.self c.loop-seat.out.items c.stint.new.self c.stint.new.out.items c.loop-seat.moved
    (λ k q. hear_among k ((length c.args.self.now.callers + length c.args.self.now.visitors)) c.loop-seat.seat l q) refl l c.loop-seat.invariant.1 c.in_err-one.ensures.came)

pub loop-seat-preserved : goal.loop-seat-preserved
loop-seat-preserved c =
    let many = ap (λ (x : House). length x.callers) c.self.view_is in
    let more = ap (λ (x : House). length x.visitors) c.self.view_is in
    let e = c.len.ensures in
    let f = c.len-2.ensures in
    let t = c.loop-seat-test.true in
    let l : c.loop-seat.seat < (length c.args.self.now.callers + length c.args.self.now.visitors) = omega (arith, t, e, f, many, more) in (
      c.in_ok-one.ensures.marks ∙ c.loop-seat.invariant.0,
      seats_step (λ n. Hear n ∷ []) ((length c.args.self.now.callers + length c.args.self.now.visitors)) c.loop-seat.seat c.args.self.now c.args.out.now.items c.loop-seat.self c.loop-seat.out.items c.stint.new.self c.stint.new.out.items c.loop-seat.moved c.in_ok-one.one
          (λ k q. hear_among k ((length c.args.self.now.callers + length c.args.self.now.visitors)) c.loop-seat.seat l q) c.loop-seat.invariant.1 c.in_ok-one.ensures.came,
    )

pub returns-clause-came : goal.returns-clause-came
returns-clause-came c =
    let many = ap (λ (x : House). length x.callers) c.self.view_is in
    let more = ap (λ (x : House). length x.visitors) c.self.view_is in
    let e = c.len.ensures in
    let f = c.len-2.ensures in
    let t = c.loop-seat-test.false in
    let u = c.loop-seat.auto.seat-end in
    let n : c.loop-seat.seat ≡ (length c.args.self.now.callers + length c.args.self.now.visitors) = omega (arith, t, u, e, f, many, more) in
    stints_as (λ k. k.config.seats ≡ (length c.args.self.now.callers + length c.args.self.now.visitors)) (λ k. hears c.loop-seat.seat) (λ k. hears k.config.seats) c.args.self.now c.args.out.now.items c.loop-seat.self c.loop-seat.out.items c.loop-seat.moved
    (λ k s st. sym st.seats) (λ k q. ap (λ (x : ℕ). hears x) (n ∙ sym q)) c.loop-seat.invariant.1
