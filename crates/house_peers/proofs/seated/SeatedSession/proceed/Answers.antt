use Rattle.std.proofs.Common.{◌≤◌, ◌+◌, ◌*◌, ◌∙◌, ap, length, subst, sym, false, true}
use Rattle.std.proofs.lemmas.Result.{IfOk-weaker, on_err_weaker}
use Rattle.house_peers.specs.SeatedSession.{SeatedSession, StandsForSeated, due, seat_effort, submitted_at}
use Rattle.delivery_token.specs.Copies.{put_effort}
use Rattle.imap_session.specs.Store.{to_follow}
use Rattle.house_peers.proofs.Efforts.{went_less}
use Rattle.house_peers.proofs.Seating.{ended, unread, worked}
use Rattle.house_peers.proofs.seated.SeatedSession.proceed.Goals as goal

pub returns-then-self-clause-ok : goal.returns-then-self-clause-ok
returns-then-self-clause-ok g c seat next heard v s =
    unread g.S.Store.step seat next heard v c.args.store.now c.args.self.now s (ap (λ (p : SeatedSession). p.gone) (sym c.self.view_is) ∙ c.if-self.true)

pub returns-then-has_ended-clause-ok : goal.returns-then-has_ended-clause-ok
returns-then-has_ended-clause-ok g c seat next heard v s =
    ended g.S.Store.step seat next heard v c.args.store.now c.args.self.now s (ap (λ (p : SeatedSession). p.gone) (sym c.self.view_is) ∙ c.if-self.false)
    (ap (λ (p : SeatedSession). p.place.link.session.ended) (sym c.self.view_is) ∙ sym c.has_ended.ensures ∙ c.if-has_ended.true)

pub returns-clause-err : goal.returns-clause-err
returns-clause-err g c =
    let i = c.self.inside in
    let here : SeatedSession = record { place = i.session; number = i.seat; serial = i.serial; gone = i.is_gone; slots = i.verdicts.slots } in
    on_err_weaker c.go_on.result
    (λ went seat next heard v s. worked g.S.Store.step false seat next heard v c.args.store.now c.go_on.new.store here c.go_on.new.self (subst (λ (p : SeatedSession). StandsForSeated seat next heard p v) (sym c.self.view_is) s) c.if-self.false
    (c.awaits_verdict.ensures.none c.if-awaits_verdict.false) went) c.go_on.ensures.err

pub returns-clause-ok : goal.returns-clause-ok
returns-clause-ok g c =
    let i = c.self.inside in
    let here : SeatedSession = record { place = i.session; number = i.seat; serial = i.serial; gone = i.is_gone; slots = i.verdicts.slots } in
    IfOk-weaker c.go_on.result _ _
    (λ done went seat next heard v s. worked g.S.Store.step true seat next heard v c.args.store.now c.go_on.new.store here c.go_on.new.self (subst (λ (p : SeatedSession). StandsForSeated seat next heard p v) (sym c.self.view_is) s) c.if-self.false
    (c.awaits_verdict.ensures.none c.if-awaits_verdict.false) went) c.go_on.ensures.ok

pub returns-clause-less : goal.returns-clause-less
returns-clause-less g c =
    let i = c.self.inside in
    let here : SeatedSession = record { place = i.session; number = i.seat; serial = i.serial; gone = i.is_gone; slots = i.verdicts.slots } in
    let there : SeatedSession = record { place = c.go_on.new.self; number = i.seat; serial = i.serial; gone = i.is_gone; slots = i.verdicts.slots } in
    subst (λ (p : SeatedSession). seat_effort there ≤ seat_effort p) c.self.view_is
    (went_less (length i.verdicts.slots) i.seat i.serial (length i.session.came) (length c.go_on.new.self.came) (put_effort (due here) + 5 * to_follow (submitted_at here)) i.session.link.session.mailing.sent c.go_on.new.self.link.session.mailing.sent
    (c.awaits_verdict.ensures.none c.if-awaits_verdict.false) c.go_on.ensures.fewer c.go_on.ensures.moves c.go_on.ensures.few)
