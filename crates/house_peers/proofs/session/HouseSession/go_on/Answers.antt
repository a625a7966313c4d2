use Rattle.std.proofs.Common.{◌∙◌, List, ℕ, true, false, ap, drop, subst, sym}
use Rattle.std.specs.Option.{is_some}
use Rattle.house_peers.specs.HouseSession.{Answered, HouseSession, StandsFor}
use Rattle.house_peers.proofs.Going.{answered, awaiting_rests, ended_rests, rests}
use Rattle.house_peers.proofs.session.HouseSession.go_on.Goals as goal

pub returns-then-has_ended-clause-ok : goal.returns-then-has_ended-clause-ok
returns-then-has_ended-clause-ok g c v s =
    rests g.S.Store.step v c.args.store.now c.args.self.now s (ended_rests c.args.self.now.link.session (ap (λ (p : HouseSession). p.link.session.ended) (sym c.self.view_is) ∙ sym c.has_ended.ensures ∙ c.if-has_ended.true))

pub returns-then-awaits_verdict-clause-ok : goal.returns-then-awaits_verdict-clause-ok
returns-then-awaits_verdict-clause-ok g c v s =
    rests g.S.Store.step v c.args.store.now c.args.self.now s (awaiting_rests c.args.self.now.link.session (ap (λ (p : HouseSession). is_some p.link.session.mailing.sent) (sym c.self.view_is) ∙ sym c.awaits_verdict.ensures.is ∙ c.if-awaits_verdict.true))

pub returns-in-None-clause-err : goal.returns-in-None-clause-err
returns-in-None-clause-err g c v s =
    let here = c.as_slice-waits.ensures in
    subst (λ (t : List ℕ). Answered g.S.Store.step false v c.args.store.now c.take-progress.new.store (record { link = c.take-progress.new.self; came = t; unsaid = c.take-progress.new.out.items })) (ap (λ (t : List ℕ). drop c.take-progress.result.used t) here ∙ sym c.take.ensures)
    (answered g.S.Store.step false v c.args.store.now c.take-progress.new.store c.self.inside.connection c.take-progress.new.self c.as_slice-waits.result.now
    c.self.inside.unsaid.items c.take-progress.new.out.items c.take-progress.result
    (subst (λ (t : List ℕ). StandsFor (record { link = c.self.inside.connection; came = t; unsaid = c.self.inside.unsaid.items }) v) (sym here) (subst (λ (p : HouseSession). StandsFor p v) (sym c.self.view_is) s))
    c.take-progress.ensures.took c.take-progress.ensures.all c.take-progress.ensures.sends (sym (ap is_some c.in-None.is)))

pub returns-in-Some-clause-ok : goal.returns-in-Some-clause-ok
returns-in-Some-clause-ok g c v s =
    let here = c.as_slice-waits.ensures in
    subst (λ (t : List ℕ). Answered g.S.Store.step true v c.args.store.now c.take-progress.new.store (record { link = c.take-progress.new.self; came = t; unsaid = c.take-progress.new.out.items })) (ap (λ (t : List ℕ). drop c.take-progress.result.used t) here ∙ sym c.take.ensures)
    (answered g.S.Store.step true v c.args.store.now c.take-progress.new.store c.self.inside.connection c.take-progress.new.self c.as_slice-waits.result.now
    c.self.inside.unsaid.items c.take-progress.new.out.items c.take-progress.result
    (subst (λ (t : List ℕ). StandsFor (record { link = c.self.inside.connection; came = t; unsaid = c.self.inside.unsaid.items }) v) (sym here) (subst (λ (p : HouseSession). StandsFor p v) (sym c.self.view_is) s))
    c.take-progress.ensures.took c.take-progress.ensures.all c.take-progress.ensures.sends (sym (ap is_some c.in-Some.is)))
