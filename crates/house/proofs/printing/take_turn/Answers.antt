use Rattle.std.proofs.Common.{◌∙◌, List, ℕ, inl, inr, refl, sym, subst}
use Rattle.std.specs.Prelude.{true}
use Rattle.house.specs.CoreStore.{Serves}
use Rattle.house_peers.specs.HouseSession.{HadTurn}
use Rattle.house_peers.specs.SeatedSession.{SeatedSession}
use Rattle.house.specs.inner.Printing.{Idled, IdledInPart}
use Rattle.house.proofs.Printed.{idled, idled_unprinted}
use Rattle.house.proofs.Settlement.{on_err}
use Rattle.house.proofs.printing.take_turn.Goals as goal

pub returns-in_err-count-clause-err : goal.returns-in_err-count-clause-err
returns-in_err-count-clause-err c =
    on_err c.from_residual.result _ λ seat next heard v s.
    let e = c.in_err-count.ensures.err in
    subst (λ (p : SeatedSession). IdledInPart Serves seat c.args.number next heard v c.args.store.now c.idle_turn.new.store c.args.out.now.items c.args.out.now.items p) (sym e.0) (inl (record { starves = e.1; stands = s; out = refl }))

pub returns-in_err-print_session-clause-err : goal.returns-in_err-print_session-clause-err
returns-in_err-print_session-clause-err c =
    on_err c.from_residual-in_err-print_session.result _ λ seat next heard v s.
    let e = c.in_err-print_session.ensures.err in
    subst (λ (p : SeatedSession). IdledInPart Serves seat c.args.number next heard v c.args.store.now c.idle_turn.new.store c.args.out.now.items c.print_session.new.out.items p) (sym e.0)
    (subst (λ (t : List ℕ). IdledInPart Serves seat c.args.number next heard v c.args.store.now c.idle_turn.new.store c.args.out.now.items t c.idle_turn.new.self) (sym e.1)
    (inr (c.in_ok-count.count, idled_unprinted Serves seat c.args.number c.in_ok-count.count next heard v c.args.store.now c.idle_turn.new.store c.args.out.now.items c.idle_turn.new.self (c.in_ok-count.ensures.ok seat next heard v s))))

pub returns-clause-ok : goal.returns-clause-ok
returns-clause-ok c seat next heard v s =
    let e = c.in_ok-print_session.ensures.ok in
    subst (λ (p : SeatedSession). Idled Serves true seat c.args.number c.in_ok-count.count next heard v c.args.store.now c.idle_turn.new.store c.args.out.now.items c.print_session.new.out.items p) (sym e.0)
    (idled Serves seat c.args.number c.in_ok-count.count next heard v c.args.store.now c.idle_turn.new.store c.args.out.now.items c.print_session.new.out.items c.idle_turn.new.self (c.idle_turn.ensures.gone ∙ c.requires.there) (c.in_ok-count.ensures.ok seat next heard v s) e.1)

pub returns-clause-session : goal.returns-clause-session
returns-clause-session c =
    subst (λ (p : SeatedSession). HadTurn Serves c.args.visitor.now.place c.args.store.now c.idle_turn.new.store c.in_ok-count.count p.place) (sym c.in_ok-print_session.ensures.ok.0) c.in_ok-count.ensures.session
