use Rattle.std.proofs.Common.{◌≡◌, ◌∙◌, refl, sym, subst}
use Rattle.house_history.specs.Views.{Seat}
use Rattle.house_history.proofs.Follow.{settled_later}
use Rattle.lane_work.specs.Dispatching.{Dispatch, HasLearned}
use Rattle.lane_work.proofs.BackingLaws.{goes_farther}
use Rattle.lane_work.proofs.dispatch.Dispatch.learn.Goals as goal

pub returns-clause-learned : goal.returns-clause-learned
returns-clause-learned g c =
    let s = c.self.inside in
    let to : Seat → Dispatch = λ x. record { number = x.number; sent = x.sent; tickets = s.tickets; history = c.look.new.front } in
    subst (λ (x : Seat). HasLearned c.args.self.now (to x)) (sym c.look.ensures.same)
    (subst (λ (d : Dispatch). HasLearned d (to s.seat)) c.self.view_is
    (record {
      number = refl;
      sent = refl;
      tickets = refl;
      goes_on = goes_farther s.front c.teach.new.front c.look.new.front c.teach.ensures.seen.0 c.look.ensures.seen.0;
      legal = c.look.ensures.seen.1;
      own = c.look.ensures.seen.2 ∙ sym c.self.invariant.1;
    }))

pub returns-clause-settled : goal.returns-clause-settled
returns-clause-settled g c = settled_later c.teach.new.front c.look.new.front c.args.answer.now c.look.ensures.seen.0 c.teach.ensures.settled
