use Rattle.std.proofs.Common.{rules, ◌≡◌, ◌<◌, ◌∙◌, Some, Ok, Err, ap, refl, sym, subst, false, true, arith, ◌++◌, ◌∷◌, []}
use Rattle.house_history.specs.Events.{sent_by}
use Rattle.house_history.specs.Views.{Seat}
use Rattle.lane_work.specs.Dispatching.{Dispatch, MaySend, SendsOrKeeps, keeps, sends}
use Rattle.lane_work.specs.inner.Dispatching.{IsBehind, IsLast}
use Rattle.lane_work.proofs.BackingLaws.{goes_farther, sent_later}
use Rattle.lane_work.proofs.DispatchLaws.{is_next, never_both, next_last, was_next}
use Rattle.lane_work.proofs.dispatch.Dispatch.send.Goals as goal

pub returns-then-not-is_behind-clause-sends : goal.returns-then-not-is_behind-clause-sends
returns-then-not-is_behind-clause-sends g c =
    let s = c.self.inside in
    let job = c.args.job in
    keeps
    (λ may.
    let m = subst (λ (d : Dispatch). MaySend d job) (sym c.self.view_is) may in
    let was = was_next s.seat.number s.last job.key s.seat.sent c.self.invariant.0 m.next.own m.next.above in
    never_both c.is_behind.result (search rules) (c.is_behind.ensures.1 (subst (λ n. IsBehind n s.last job.key) (sym c.number.ensures) was)))
    refl refl

pub invariant_of-self-2 : goal.invariant_of-self-2
invariant_of-self-2 g c =
    let s = c.self.inside in
    let job = c.args.job in
    let behind = subst (λ n. IsBehind n s.last job.key) c.number.ensures (c.is_behind.ensures.0 (search rules)) in
    let last = next_last c.send.new.self.number c.in-Some-take.ticket.number job s.seat.sent c.send.new.self.sent c.send.ensures.sent.1 (behind.own ∙ sym c.send.ensures.sent.0)
    (is_next s.seat.number s.last job.key s.seat.sent c.self.invariant.0 behind) in
    subst (λ (x : Seat). IsLast x.number (Some job.key) x.sent × (sent_by x.number c.look.new.front ≡ x.sent)) (sym c.look.ensures.same) (last, c.look.ensures.seen.2)

pub returns-clause-sends : goal.returns-clause-sends
returns-clause-sends g c =
    let s = c.self.inside in
    let job = c.args.job in
    let behind = subst (λ n. IsBehind n s.last job.key) c.number.ensures (c.is_behind.ensures.0 (search rules)) in
    let one = c.in-Some.ensures.divided.1 in
    let to : Seat → Dispatch = λ x. record { number = x.number; sent = x.sent; tickets = c.divide.new.self; history = c.look.new.front } in
    subst (λ (x : Seat). SendsOrKeeps job (Ok c.new.result) c.args.self.now (to x)) (sym c.look.ensures.same)
    (subst (λ (d : Dispatch). SendsOrKeeps job (Ok c.new.result) d (to c.send.new.self)) c.self.view_is
    (sends (record { next = record { own = behind.own; above = is_next s.seat.number s.last job.key s.seat.sent c.self.invariant.0 behind }; left = omega (arith, one) }) (ap Ok c.new.ensures)
    (record {
      number = c.send.ensures.sent.0;
      ticket = c.in-Some-take.ticket.number;
      sent = c.send.ensures.sent.1;
      tickets = one;
      goes_on = goes_farther s.front c.send.new.front c.look.new.front c.send.ensures.seen.0 c.look.ensures.seen.0;
      legal = c.look.ensures.seen.1;
      shown = sent_later job.key.seat c.send.new.front c.look.new.front (job, c.in-Some-take.ticket.number) c.look.ensures.seen.0 c.send.ensures.seen.2;
      own = c.look.ensures.seen.2 ∙ (c.send.ensures.sent.1 ∙ ap (λ l. l ++ (job, c.in-Some-take.ticket.number) ∷ []) (sym c.self.invariant.1));
    })))
