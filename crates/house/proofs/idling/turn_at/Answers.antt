use Rattle.std.proofs.Common.{◌-◌, ◌<◌, ◌∙◌, refl, Option, Some, subst, sym, true}
use Rattle.std.specs.Prelude.{IfSome}
use Rattle.imap_session.specs.Exchange.{Left}
use Rattle.imap_session.specs.Store.{answer}
use Rattle.house.specs.declared.core_store.CoreStore.{CoreStore}
use Rattle.house_peers.specs.SeatedSession.{SeatedSession}
use Rattle.delivery_core.specs.DeliveryCore.{behind}
use Rattle.house.specs.Effort.{turns_left}
use Rattle.house.specs.Setup.{session_seat}
use Rattle.house.specs.inner.Steps.{StandsForSomebody}
use Rattle.house.specs.Steps.{MayIdle}
use Rattle.house.proofs.IdleTurn.{idled, idled_in_part, idled_out, turns_fewer}
use Rattle.house.proofs.Settlement.{on_err}
use Rattle.house.proofs.idling.turn_at.Goals as goal

pub returns-in_err-take_turn-clause-err : goal.returns-in_err-take_turn-clause-err
returns-in_err-take_turn-clause-err c =
    on_err c.from_residual.result _ λ k next heard w b stands there.
    let before : CoreStore = record { core = c.args.store.now.core; session = c.args.number - 1 } in
    let here = subst (λ (o : Option SeatedSession). StandsForSomebody (session_seat k (c.args.number - 1)) next heard o (Some b)) c.in-Some.is there in
    let may = subst (λ (o : Option SeatedSession). IfSome o (λ p. MayIdle p (c.args.number - 1) c.args.store.now.core)) c.in-Some.is c.requires.idles in
    idled_in_part k c.args.number next heard b before c.take_turn.new.store w c.in-Some.visitor c.take_turn.new.visitor c.args.out.now.items c.take_turn.new.out.items c.requires.counted refl stands here may
    (c.in_err-take_turn.ensures.err (session_seat k (c.args.number - 1)) next heard b here) c.take_turn.ensures.gone

pub returns-then-has_ended-clause-ok : goal.returns-then-has_ended-clause-ok
returns-then-has_ended-clause-ok c k next heard w b stands there =
    let before : CoreStore = record { core = c.args.store.now.core; session = c.args.number - 1 } in
    let here = subst (λ (o : Option SeatedSession). StandsForSomebody (session_seat k (c.args.number - 1)) next heard o (Some b)) c.in-Some.is there in
    let may = subst (λ (o : Option SeatedSession). IfSome o (λ p. MayIdle p (c.args.number - 1) c.args.store.now.core)) c.in-Some.is c.requires.idles in
    idled_out k c.args.number c.in_ok-take_turn.field-0 next heard b before c.take_turn.new.store c.leave.new.self (answer Left c.leave.result) w c.in-Some.visitor c.take_turn.new.visitor c.args.out.now.items c.take_turn.new.out.items c.requires.counted refl stands
    here may (c.in_ok-take_turn.ensures.ok (session_seat k (c.args.number - 1)) next heard b here) c.take_turn.ensures.gone (sym c.has_ended.ensures ∙ c.if-has_ended.true) c.leave.ensures

pub returns-else-has_ended-clause-ok : goal.returns-else-has_ended-clause-ok
returns-else-has_ended-clause-ok c k next heard w b stands there =
    let before : CoreStore = record { core = c.args.store.now.core; session = c.args.number - 1 } in
    let here = subst (λ (o : Option SeatedSession). StandsForSomebody (session_seat k (c.args.number - 1)) next heard o (Some b)) c.in-Some.is there in
    let may = subst (λ (o : Option SeatedSession). IfSome o (λ p. MayIdle p (c.args.number - 1) c.args.store.now.core)) c.in-Some.is c.requires.idles in
    idled k true c.args.number c.in_ok-take_turn.field-0 next heard b before c.take_turn.new.store w c.in-Some.visitor c.take_turn.new.visitor c.args.out.now.items c.take_turn.new.out.items c.requires.counted refl stands
    here may (c.in_ok-take_turn.ensures.ok (session_seat k (c.args.number - 1)) next heard b here) c.take_turn.ensures.gone (λ _. sym c.has_ended.ensures ∙ c.if-has_ended.false)

pub returns-else-has_ended-clause-less : goal.returns-else-has_ended-clause-less
returns-else-has_ended-clause-less c =
    let before : CoreStore = record { core = c.args.store.now.core; session = c.args.number - 1 } in
    let may = subst (λ (o : Option SeatedSession). IfSome o (λ p. MayIdle p (c.args.number - 1) c.args.store.now.core)) c.in-Some.is c.requires.idles in
    let told = c.in_ok-take_turn.ensures.session in
    subst (λ (o : Option SeatedSession). IfSome o (λ p. turns_left (Some c.take_turn.new.visitor) (behind c.take_turn.new.store.core (c.args.number - 1)) < turns_left (Some p) (behind c.args.store.now.core (c.args.number - 1)))) (sym c.in-Some.is)
    (turns_fewer c.in-Some.visitor c.take_turn.new.visitor c.args.number c.in_ok-take_turn.field-0 told.0 before c.take_turn.new.store refl may told.1 (sym c.has_ended.ensures ∙ c.if-has_ended.false))
