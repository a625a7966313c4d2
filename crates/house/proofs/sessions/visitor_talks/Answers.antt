use Rattle.std.proofs.Common.{◌≡◌, ◌-◌, ◌∙◌, inl, inr, false, refl, Option, Some, subst, sym, true}
use Rattle.imap_session.specs.Exchange.{Left}
use Rattle.imap_session.specs.Store.{answer}
use Rattle.house.specs.declared.core_store.CoreStore.{CoreStore}
use Rattle.house_peers.specs.SeatedSession.{SeatedSession}
use Rattle.house.specs.Setup.{session_seat}
use Rattle.house.specs.inner.Steps.{StandsForSomebody}
use Rattle.house.proofs.Visiting.{delivery_then, parted, talked}
use Rattle.house.proofs.Settlement.{on_err}
use Rattle.house.specs.Steps.{visitor_unprinted, visitor_works}
use Rattle.house.proofs.sessions.visitor_talks.Goals as goal

pub returns-in_err-go_on-clause-err : goal.returns-in_err-go_on-clause-err
returns-in_err-go_on-clause-err c =
    on_err c.from_residual.result _ λ k next heard w b stands there.
    let before : CoreStore = record { core = c.args.store.now.core; session = c.args.number - 1 } in
    talked k false c.args.number next heard b before c.go_on.new.store w c.go_on.new.visitor c.args.out.now.items c.go_on.new.out.items c.requires.counted refl stands
    (c.in_err-go_on.ensures.err (session_seat k (c.args.number - 1)) next heard b (subst (λ (o : Option SeatedSession). StandsForSomebody (session_seat k (c.args.number - 1)) next heard o (Some b)) c.in-Some.is there)) c.go_on.ensures.gone
    (λ e. absurd (let f : false ≡ true = e in cc))

pub returns-then-has_ended-clause-ok : goal.returns-then-has_ended-clause-ok
returns-then-has_ended-clause-ok c k next heard w b stands there =
    let before : CoreStore = record { core = c.args.store.now.core; session = c.args.number - 1 } in
    parted k c.args.number next heard b before c.go_on.new.store c.leave.new.self (answer Left c.leave.result) w c.go_on.new.visitor c.args.out.now.items c.go_on.new.out.items c.requires.counted refl stands
    (c.in_ok-go_on.ensures.ok (session_seat k (c.args.number - 1)) next heard b (subst (λ (o : Option SeatedSession). StandsForSomebody (session_seat k (c.args.number - 1)) next heard o (Some b)) c.in-Some.is there)) c.go_on.ensures.gone
    (sym c.has_ended.ensures ∙ c.if-has_ended.true) c.leave.ensures

pub returns-else-has_ended-clause-ok : goal.returns-else-has_ended-clause-ok
returns-else-has_ended-clause-ok c k next heard w b stands there =
    let before : CoreStore = record { core = c.args.store.now.core; session = c.args.number - 1 } in
    talked k true c.args.number next heard b before c.go_on.new.store w c.go_on.new.visitor c.args.out.now.items c.go_on.new.out.items c.requires.counted refl stands
    (c.in_ok-go_on.ensures.ok (session_seat k (c.args.number - 1)) next heard b (subst (λ (o : Option SeatedSession). StandsForSomebody (session_seat k (c.args.number - 1)) next heard o (Some b)) c.in-Some.is there)) c.go_on.ensures.gone
    (λ _. sym c.has_ended.ensures ∙ c.if-has_ended.false)

pub returns-then-has_ended-clause-delivery : goal.returns-then-has_ended-clause-delivery
returns-then-has_ended-clause-delivery c = delivery_then c.args.store.now.core c.go_on.new.store.core c.leave.new.self.core c.go_on.ensures.delivery c.leave.ensures.rest

pub returns-in_err-go_on-clause-works : goal.returns-in_err-go_on-clause-works
returns-in_err-go_on-clause-works c = on_err c.from_residual.result _ (elim c.in_err-go_on.ensures.works [ inl w ↦ visitor_works _ c.in-Some.is w | inr l ↦ visitor_unprinted _ refl l ])
