use Rattle.std.proofs.Common.{◌≡◌, ◌++◌, ◌∷◌, [], ℕ, List, All, Contains, sym, ap, ◌∙◌, subst, arith, Some, None, Bool}
use mathlib.Core.Bool.{cond}
use mathlib.Core.List.{IsPrefix}
use Rattle.house_history.specs.declared.event.Event.{Event}
use Rattle.house_history.specs.declared.event.Event.TheVariants as events
use Rattle.delivery_token.specs.declared.Job.{Job}
use Rattle.house_history.specs.Events.{seat_key, life, sent_by}
use Rattle.house_history.specs.Views.{Seat, Ticket}
use Rattle.house_history.specs.Legal.{IsBefore}
use Rattle.house_history.proofs.Parts.{itself}
use Rattle.house_history.proofs.Follow.{added_behind, apart, life_push, seat_concerns, seat_follows, sent_push, sent_there}
use Rattle.house_history.proofs.seat.Seat.send.Goals as goal

pub add_both-requires-clause-apart : goal.add_both-requires-clause-apart
add_both-requires-clause-apart g c = let s = c.self.inside in let t = c.ticket.inside in let few = c.self.invariant.2 in
    apart s.owner.key (seat_key s.number) t.owner.key t.number c.self.invariant.1 (omega (arith, few)) c.ticket.invariant.1

pub add_both-requires-clause-concerns : goal.add_both-requires-clause-concerns
add_both-requires-clause-concerns g c = let s = c.self.inside in let t = c.ticket.inside in
    seat_concerns s.owner.key s.number t.owner.key c.args.job.now t.number c.self.invariant.1 c.ticket.invariant.1 (c.requires.own ∙ sym (ap (λ (v : Seat). v.number) c.self.view_is))

pub add_both-requires-clause-may_follow : goal.add_both-requires-clause-may_follow
add_both-requires-clause-may_follow g c = let j = c.args.job.now in let s = c.self.inside in let t = c.ticket.inside in
    let here : j.key.seat ≡ s.number = c.requires.own ∙ sym (ap (λ (v : Seat). v.number) c.self.view_is) in
    let above : All (λ i. IsBefore i.0 j) (sent_by s.number s.owner.own) = subst (λ (l : List (Job × ℕ)). All (λ i. IsBefore i.0 j) l) (sym (ap (λ (v : Seat). v.sent) c.self.view_is)) c.requires.above in
    let fresh : life t.number t.owner.own ≡ [] = ap (λ (v : Ticket). v.life) c.ticket.view_is ∙ c.requires.unused in
    seat_follows s.owner.key s.number t.owner.key c.front.inside.seen.log s.owner.own t.owner.own j t.number c.self.invariant.1 c.ticket.invariant.1 here above fresh

pub returns-clause-sent : goal.returns-clause-sent
returns-clause-sent g c = let j = c.args.job.now in let s = c.self.inside in let t = c.ticket.inside in
    let here : j.key.seat ≡ s.number = c.requires.own ∙ sym (ap (λ (v : Seat). v.number) c.self.view_is) in (
      ap (λ (v : Seat). v.number) c.self.view_is,
      ap (sent_by s.number) c.add_both.ensures.owner.2 ∙ (sent_push s.number s.owner.own j t.number here
          ∙ (ap (λ (l : List (Job × ℕ)). l ++ (j, t.number) ∷ []) (ap (λ (v : Seat). v.sent) c.self.view_is) ∙ ap (λ (n : ℕ). c.args.self.now.sent ++ (j, n) ∷ []) (ap (λ (v : Ticket). v.number) c.ticket.view_is))),
    )

pub returns-clause-life : goal.returns-clause-life
returns-clause-life g c = let j = c.args.job.now in let t = c.ticket.inside in let e : Event = events.Sent j t.number in
    let fresh : life t.number t.owner.own ≡ [] = ap (λ (v : Ticket). v.life) c.ticket.view_is ∙ c.requires.unused in (
      ap (λ (v : Ticket). v.number) c.ticket.view_is,
      ap (life t.number) c.add_both.ensures.other.2 ∙ (life_push t.number t.owner.own e (ap (λ (b : Bool). cond b (Some e) None) (itself t.number))
          ∙ (ap (λ (l : List Event). l ++ e ∷ []) fresh ∙ ap (λ (n : ℕ). events.Sent j n ∷ []) (ap (λ (v : Ticket). v.number) c.ticket.view_is))),
    )

pub returns-clause-seen : goal.returns-clause-seen
returns-clause-seen g c = let j = c.args.job.now in let t = c.ticket.inside in let added = c.add_both.ensures.seen.1 in let log = c.add_both.new.seen.log in (
  subst (λ (l : List Event). IsPrefix l log) c.front.view_is (added_behind c.front.inside.seen.log log (events.Sent j t.number) added),
  c.add_both.ensures.seen.2,
  subst (λ (n : ℕ). Contains (sent_by j.key.seat log) (j, n)) (ap (λ (v : Ticket). v.number) c.ticket.view_is) (sent_there added.0 log j t.number added.2),
)
