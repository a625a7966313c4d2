use Rattle.std.proofs.Common.{◌≤◌, ◌∙◌, ap, arith, length, subst, sym, refl, false, true, List, Option}
use Rattle.std.specs.Option.{is_some}
use Rattle.std.specs.Prelude.{Err, Ok, OnErr, Result}
use Rattle.delivery_token.specs.declared.Verdict.{Verdict}
use Rattle.delivery_token.specs.Verdicts.{AreKnown, Verdicts}
use Rattle.std.proofs.lemmas.Result.{IfOk-weaker, on_err_weaker}
use Rattle.imap_session.proofs.Asking.{asks_then}
use Rattle.house_peers.specs.HouseSession.{HouseSession}
use Rattle.house_peers.specs.SeatedSession.{Proceeded, SeatedSession, StandsForSeated, due, seat_effort}
use Rattle.delivery_token.specs.Copies.{put_effort}
use Rattle.house_peers.proofs.Efforts.{told_less}
use Rattle.house_peers.proofs.Seating.{stalled, told_and_worked, waited}
use Rattle.house_peers.proofs.seated.SeatedSession.answer.Goals as goal

pub returns-in_default-clause-ok : goal.returns-in_default-clause-ok
returns-in_default-clause-ok g c seat next heard v s =
    waited g.S.Store.step seat next heard v c.args.store.now c.args.self.now s c.requires.there c.requires.waits
    (subst (λ (p : SeatedSession). (vs : List Verdict) → AreKnown 1 p.slots vs → ⊥) c.self.view_is (c.in_default.ensures.unknown refl))

-- what holds whatever came holds of an error
on_err : {A E : Type 0} (r : Result A E) (P : Type 0) → P → OnErr r P
on_err (Ok x) P h = tt
on_err (Err e) P h = h

pub returns-in_err-answer-clause-err : goal.returns-in_err-answer-clause-err
returns-in_err-answer-clause-err g c =
    on_err c.from_residual.result _ λ seat next heard v s.
    let i = c.self.inside in
    let here : SeatedSession = record { place = i.session; number = i.seat; serial = i.serial; gone = i.is_gone; slots = i.verdicts.slots } in
    let err = c.in_err-answer.ensures.err in
    subst (λ (x : HouseSession). Proceeded g.S.Store.step false seat next heard v c.args.store.now c.answer.new.store (record { place = x; number = i.seat; serial = i.serial; gone = i.is_gone; slots = i.verdicts.slots })) (sym err.0)
    (stalled g.S.Store.step seat next heard v c.args.store.now c.answer.new.store here (subst (λ (p : SeatedSession). StandsForSeated seat next heard p v) (sym c.self.view_is) s) (ap (λ (p : SeatedSession). p.gone) c.self.view_is ∙ c.requires.there) err.1)

pub returns-clause-err : goal.returns-clause-err
returns-clause-err g c =
    let i = c.self.inside in
    let here : SeatedSession = record { place = i.session; number = i.seat; serial = i.serial; gone = i.is_gone; slots = i.verdicts.slots } in
    on_err_weaker c.go_on.result
    (λ went seat next heard v s. subst (λ (slots : List (Option Verdict)). Proceeded g.S.Store.step false seat next heard v c.args.store.now c.go_on.new.store (record { place = c.go_on.new.self; number = i.seat; serial = i.serial; gone = i.is_gone; slots = slots }))
    (sym (ap (λ (x : Verdicts). x.slots) c.clear.ensures))
    (told_and_worked g.S.Store.step false seat next heard v c.args.store.now c.answer.new.store c.go_on.new.store here c.answer.new.self c.go_on.new.self c.in-Some.verdict
    (subst (λ (p : SeatedSession). StandsForSeated seat next heard p v) (sym c.self.view_is) s) (ap (λ (p : SeatedSession). p.gone) c.self.view_is ∙ c.requires.there)
    (ap (λ (p : SeatedSession). p.place.link.session.ended) c.self.view_is ∙ c.requires.going) (ap (λ (p : SeatedSession). is_some p.place.link.session.mailing.sent) c.self.view_is ∙ c.requires.waits) c.in-Some.ensures.known c.in_ok-answer.ensures.ok went)) c.go_on.ensures.err

pub returns-clause-ok : goal.returns-clause-ok
returns-clause-ok g c =
    let i = c.self.inside in
    let here : SeatedSession = record { place = i.session; number = i.seat; serial = i.serial; gone = i.is_gone; slots = i.verdicts.slots } in
    IfOk-weaker c.go_on.result _ _
    (λ done went seat next heard v s. subst (λ (slots : List (Option Verdict)). Proceeded g.S.Store.step true seat next heard v c.args.store.now c.go_on.new.store (record { place = c.go_on.new.self; number = i.seat; serial = i.serial; gone = i.is_gone; slots = slots }))
    (sym (ap (λ (x : Verdicts). x.slots) c.clear.ensures))
    (told_and_worked g.S.Store.step true seat next heard v c.args.store.now c.answer.new.store c.go_on.new.store here c.answer.new.self c.go_on.new.self c.in-Some.verdict
    (subst (λ (p : SeatedSession). StandsForSeated seat next heard p v) (sym c.self.view_is) s) (ap (λ (p : SeatedSession). p.gone) c.self.view_is ∙ c.requires.there)
    (ap (λ (p : SeatedSession). p.place.link.session.ended) c.self.view_is ∙ c.requires.going) (ap (λ (p : SeatedSession). is_some p.place.link.session.mailing.sent) c.self.view_is ∙ c.requires.waits) c.in-Some.ensures.known c.in_ok-answer.ensures.ok went)) c.go_on.ensures.ok

pub returns-clause-asked : goal.returns-clause-asked
returns-clause-asked g c = asks_then g.S.Store.step c.args.store.now c.answer.new.store c.go_on.new.store c.in_ok-answer.ensures.asked c.go_on.ensures.asked

pub returns-clause-less : goal.returns-clause-less
returns-clause-less g c =
    let i = c.self.inside in
    let here : SeatedSession = record { place = i.session; number = i.seat; serial = i.serial; gone = i.is_gone; slots = i.verdicts.slots } in
    let there : SeatedSession = record { place = c.go_on.new.self; number = i.seat; serial = i.serial; gone = i.is_gone; slots = c.clear.new.self.slots } in
    let came = ap length c.in_ok-answer.ensures.came in
    let fewer = c.go_on.ensures.fewer in
    subst (λ (p : SeatedSession). seat_effort there ≤ seat_effort p) c.self.view_is
    (told_less (length c.clear.new.self.slots) i.seat i.serial (length i.session.came) (length c.go_on.new.self.came) (put_effort (due here)) i.session.link.session.mailing.sent c.answer.new.self.link.session.mailing.sent c.go_on.new.self.link.session.mailing.sent
    c.in_ok-answer.ensures.follows (omega (arith, came, fewer)) (λ none some. let less = c.go_on.ensures.moves none some in omega (arith, came, less)) c.go_on.ensures.few
    (λ awaited. let same = c.go_on.ensures.rests awaited in (ap (λ (q : HouseSession). length q.came) same ∙ came, ap (λ (q : HouseSession). q.link.session.mailing.sent) same)))
