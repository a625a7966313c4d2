use Rattle.std.proofs.Common.{◌≡◌, ◌∙◌, sym, subst}
use mathlib.Core.List.{IsPrefix}
use Rattle.house_history.specs.Events.{sent_by}
use Rattle.lane_work.specs.Dispatching.{Dispatch}
use Rattle.lane_work.proofs.BackingLaws.{sent_between}
use Rattle.lane_work.proofs.dispatch.Dispatch.has_sent_all.Goals as goal

pub returns-clause-own : goal.returns-clause-own
returns-clause-own g c =
    let s = c.self.inside in
    let front = c.args.front.now in
    let beyond = subst (λ f. IsPrefix f c.look.new.front) c.again-later.ensures c.look.ensures.seen.0 in
    subst (λ (d : Dispatch). IsPrefix d.history front → sent_by d.number front ≡ sent_by d.number d.history) c.self.view_is
    (λ known. sent_between s.seat.number s.front front c.look.new.front known beyond (c.look.ensures.seen.2 ∙ sym c.self.invariant.1))
