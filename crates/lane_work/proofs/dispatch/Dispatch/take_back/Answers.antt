use Rattle.std.proofs.Common.{◌≡◌, ◌∙◌, refl, sym, subst}
use Rattle.house_history.specs.Views.{Seat}
use Rattle.house_history.proofs.Follow.{withdrawn_later}
use Rattle.lane_work.specs.Dispatching.{Dispatch, HasLearned}
use Rattle.lane_work.proofs.BackingLaws.{goes_farther}
use Rattle.lane_work.proofs.dispatch.Dispatch.take_back.Goals as goal

pub returns-clause-withdrawn : goal.returns-clause-withdrawn
returns-clause-withdrawn g c = withdrawn_later c.withdraw.new.front c.look.new.front c.args.letter c.look.ensures.seen.0 (c.withdraw.ensures.copy c.args.letter c.open-ticket.ensures.1)

pub returns-clause-learned : goal.returns-clause-learned
returns-clause-learned g c =
    let s = c.self.inside in
    let to : Seat → Dispatch = λ x. record { number = x.number; sent = x.sent; tickets = s.tickets; history = c.look.new.front } in
    subst (λ (x : Seat). HasLearned c.args.self.now (to x)) (sym c.look.ensures.same)
    (subst (λ (d : Dispatch). HasLearned d (to s.seat)) c.self.view_is
    (record {
      number = refl;
      sent = refl;
      tickets = refl;
      goes_on = goes_farther s.front c.withdraw.new.front c.look.new.front c.withdraw.ensures.seen.0 c.look.ensures.seen.0;
      legal = c.look.ensures.seen.1;
      own = c.look.ensures.seen.2 ∙ sym c.self.invariant.1;
    }))
