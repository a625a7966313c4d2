use Rattle.std.proofs.Common.{◌≡◌, ◌++◌, ◌∷◌, [], ℕ, List, sym, ap, ◌∙◌, Some, None, Bool}
use mathlib.Core.Bool.{cond}
use Rattle.shared_history.specs.Pages.{part}
use Rattle.house_history.specs.declared.event.Event.{Event}
use Rattle.house_history.specs.declared.event.Event.TheVariants as events
use Rattle.house_history.specs.Events.{concerns, life, ticket_key}
use Rattle.house_history.specs.Views.{Ticket}
use Rattle.house_history.proofs.Parts.{itself}
use Rattle.house_history.proofs.Follow.{gone, life_push, ticket_concerns, ticket_follows}
use Rattle.house_history.proofs.seat.Ticket.withdraw.Goals as goal

pub add-requires-clause-concerns : goal.add-requires-clause-concerns
add-requires-clause-concerns g c = ticket_concerns c.self.inside.owner.key c.self.inside.number c.self.invariant.1

pub add-requires-clause-may_follow : goal.add-requires-clause-may_follow
add-requires-clause-may_follow g c = let t = c.self.inside in let j = c.requires.0 in
    let sent : life t.number t.owner.own ≡ events.Sent j t.number ∷ [] = ap (λ (v : Ticket). v.life) c.self.view_is ∙ (c.requires.1 ∙ ap (λ (n : ℕ). events.Sent j n ∷ []) (sym (ap (λ (v : Ticket). v.number) c.self.view_is))) in
    ticket_follows t.owner.key t.number c.front.inside.seen.log t.owner.own j c.self.invariant.1 sent

pub returns-clause-life : goal.returns-clause-life
returns-clause-life g c = let t = c.self.inside in let e : Event = events.Withdrawn t.number in (
  ap (λ (v : Ticket). v.number) c.self.view_is,
  ap (life t.number) c.add.ensures.owner.2 ∙ (life_push t.number t.owner.own e (ap (λ (b : Bool). cond b (Some e) None) (itself t.number))
      ∙ (ap (λ (l : List Event). l ++ e ∷ []) (ap (λ (v : Ticket). v.life) c.self.view_is) ∙ ap (λ (n : ℕ). c.args.self.now.life ++ events.Withdrawn n ∷ []) (ap (λ (v : Ticket). v.number) c.self.view_is))),
)

pub returns-clause-copy : goal.returns-clause-copy
returns-clause-copy g c j is = let t = c.self.inside in let e : Event = events.Withdrawn t.number in let log = c.add.new.seen.log in
    let sent : life t.number t.owner.own ≡ events.Sent j t.number ∷ [] = ap (λ (v : Ticket). v.life) c.self.view_is ∙ (is ∙ ap (λ (n : ℕ). events.Sent j n ∷ []) (sym (ap (λ (v : Ticket). v.number) c.self.view_is))) in
    let now : life t.number c.add.new.self.own ≡ events.Sent j t.number ∷ e ∷ [] = ap (life t.number) c.add.ensures.owner.2 ∙ (life_push t.number t.owner.own e (ap (λ (b : Bool). cond b (Some e) None) (itself t.number)) ∙ ap (λ (l : List Event). l ++ e ∷ []) sent) in
    let mine : part concerns (ticket_key t.number) log ≡ c.add.new.self.own = ap (λ (k : ℕ). part concerns k log) (sym c.self.invariant.1) ∙ c.add.ensures.all in
    gone log c.add.new.self.own j t.number mine now
