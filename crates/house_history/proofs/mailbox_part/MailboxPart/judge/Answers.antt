use Rattle.std.proofs.Common.{◌≡◌, ◌++◌, ◌∷◌, [], ℕ, List, All, sym, ap, ◌∙◌, subst, arith, Bool, Some, None}
use mathlib.Core.Bool.{cond}
use mathlib.Core.List.{IsPrefix}
use Rattle.change_ring.specs.Log.{IsLegalLog}
use Rattle.house_history.specs.declared.event.Event.{Event}
use Rattle.house_history.specs.declared.event.Event.TheVariants as events
use Rattle.house_history.specs.Events.{arrives, changes_in, judged_in, life}
use Rattle.house_history.specs.Views.{MailboxPart, Ticket}
use Rattle.house_history.specs.Legal.{IsBefore}
use Rattle.house_history.proofs.Parts.{itself}
use Rattle.house_history.proofs.Follow.{added_behind, added_there, apart, life_push, part_concerns, part_follows}
use Rattle.house_history.proofs.mailbox_part.MailboxPart.judge.Goals as goal

pub add_both-requires-clause-apart : goal.add_both-requires-clause-apart
add_both-requires-clause-apart g c = let s = c.self.inside in let t = c.ticket.inside in let few = c.self.invariant.2 in
    apart s.owner.key s.number t.owner.key t.number c.self.invariant.1 (omega (arith, few)) c.ticket.invariant.1

pub add_both-requires-clause-concerns : goal.add_both-requires-clause-concerns
add_both-requires-clause-concerns g c = let s = c.self.inside in let t = c.ticket.inside in
    part_concerns s.owner.key s.number t.owner.key c.args.job.now c.args.verdict t.number c.self.invariant.1 c.ticket.invariant.1 (c.requires.here ∙ sym (ap (λ (v : MailboxPart). v.number) c.self.view_is))

pub add_both-requires-clause-may_follow : goal.add_both-requires-clause-may_follow
add_both-requires-clause-may_follow g c = let j = c.args.job.now in let s = c.self.inside in let t = c.ticket.inside in
    let here : j.mailbox ≡ s.number = c.requires.here ∙ sym (ap (λ (v : MailboxPart). v.number) c.self.view_is) in
    let above : All (λ i. IsBefore i j) (judged_in s.number j.key.seat s.owner.own) = subst (λ (r : MailboxPart). All (λ i. IsBefore i j) (judged_in r.number j.key.seat r.events)) (sym c.self.view_is) c.requires.above in
    let fits : IsLegalLog (changes_in s.number s.owner.own ++ arrives j c.args.verdict) = subst (λ (r : MailboxPart). IsLegalLog (changes_in r.number r.events ++ arrives j c.args.verdict)) (sym c.self.view_is) c.requires.fits in
    let sent : life t.number t.owner.own ≡ events.Sent j t.number ∷ [] = ap (λ (v : Ticket). v.life) c.ticket.view_is ∙ (c.requires.sent ∙ ap (λ (n : ℕ). events.Sent j n ∷ []) (sym (ap (λ (v : Ticket). v.number) c.ticket.view_is))) in
    part_follows s.owner.key s.number t.owner.key c.front.inside.seen.log s.owner.own t.owner.own j c.args.verdict t.number c.self.invariant.1 c.ticket.invariant.1 here sent above fits c.uid_fits.ensures

pub returns-clause-seen : goal.returns-clause-seen
returns-clause-seen g c = let t = c.ticket.inside in let added = c.add_both.ensures.seen.1 in let log = c.add_both.new.seen.log in let e : Event = events.Judged c.args.job.now c.args.verdict t.number in (
  subst (λ (l : List Event). IsPrefix l log) c.front.view_is (added_behind c.front.inside.seen.log log e added),
  c.add_both.ensures.seen.2,
  (t.number, added_there c.front.inside.seen.log log e added),
)

pub returns-clause-life : goal.returns-clause-life
returns-clause-life g c = let t = c.ticket.inside in let e : Event = events.Judged c.args.job.now c.args.verdict t.number in (
  ap (λ (v : Ticket). v.number) c.ticket.view_is,
  ap (life t.number) c.add_both.ensures.other.2 ∙ (life_push t.number t.owner.own e (ap (λ (b : Bool). cond b (Some e) None) (itself t.number))
      ∙ (ap (λ (l : List Event). l ++ e ∷ []) (ap (λ (v : Ticket). v.life) c.ticket.view_is)
      ∙ ap (λ (n : ℕ). c.args.ticket.now.life ++ events.Judged c.args.job.now c.args.verdict n ∷ []) (ap (λ (v : Ticket). v.number) c.ticket.view_is))),
)
