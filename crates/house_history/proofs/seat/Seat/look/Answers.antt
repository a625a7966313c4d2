use Rattle.std.proofs.Common.{◌≡◌, ℕ, List, sym, ap, ◌∙◌, subst}
use mathlib.Core.List.{IsPrefix}
use Rattle.shared_history.specs.Pages.{part}
use Rattle.house_history.specs.declared.event.Event.{Event}
use Rattle.house_history.specs.Events.{concerns, seat_key, sent_by}
use Rattle.house_history.specs.Views.{Seat}
use Rattle.house_history.proofs.Follow.{sent_own}
use Rattle.house_history.proofs.seat.Seat.look.Goals as goal

pub returns-clause-seen : goal.returns-clause-seen
returns-clause-seen g c =
    let log = c.look.new.seen.log in let n : ℕ = c.self.inside.number in
    let mine : part concerns (seat_key n) log ≡ c.self.inside.owner.own = ap (λ (k : ℕ). part concerns k log) (sym c.self.invariant.1) ∙ c.look.ensures.all in (
      subst (λ (l : List Event). IsPrefix l log) c.front.view_is c.look.ensures.seen.1,
      c.look.ensures.seen.2,
      ap (λ (k : ℕ). sent_by k log) (sym (ap (λ (v : Seat). v.number) c.self.view_is)) ∙ (sent_own n log c.self.inside.owner.own mine ∙ ap (λ (v : Seat). v.sent) c.self.view_is),
    )
