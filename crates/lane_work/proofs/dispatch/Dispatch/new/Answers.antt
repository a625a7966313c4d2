use Rattle.std.proofs.Common.{◌≡◌, ◌∙◌, ap, refl, sym, subst, []}
use mathlib.Core.List.{IsPrefix}
use Rattle.house_history.specs.Events.{sent_by}
use Rattle.house_history.specs.Views.{Seat}
use Rattle.lane_work.proofs.BackingLaws.{sent_between}
use Rattle.lane_work.proofs.dispatch.Dispatch.new.Goals as goal

pub invariant_of-result : goal.invariant_of-result
invariant_of-result g c =
    let front = c.args.front in
    let before = subst (λ f. IsPrefix f c.look.new.front) c.again-later.ensures c.look.ensures.seen.0 in
    subst (λ (s : Seat). (s.sent ≡ []) × (sent_by s.number front ≡ s.sent)) (sym c.look.ensures.same)
    (c.requires, sent_between c.args.seat.number [] front c.look.new.front (front, refl) before (c.look.ensures.seen.2 ∙ c.requires) ∙ sym c.requires)
