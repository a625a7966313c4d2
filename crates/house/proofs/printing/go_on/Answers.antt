use Rattle.std.proofs.Common.{◌∙◌, inl, inr, List, ℕ, sym, subst}
use Rattle.std.specs.Prelude.{true, false}
use Rattle.std.proofs.lemmas.Result.{on_err_weaker, on_ok_weaker}
use Rattle.house.specs.CoreStore.{Serves}
use Rattle.house.proofs.Served.{met_delivery}
use Rattle.house_peers.specs.SeatedSession.{SeatedSession}
use Rattle.house.specs.inner.Printing.{WentOn}
use Rattle.house.proofs.Printed.{session_part, unprinted, went_on}
use Rattle.house.proofs.printing.go_on.Goals as goal

pub returns-in_default-clause-err : goal.returns-in_default-clause-err
returns-in_default-clause-err c seat next heard v s =
    session_part Serves seat c.args.number next heard v c.args.store.now c.proceed.new.store c.args.out.now.items c.print_session.new.out.items c.proceed.new.self c.print_session.new.visitor (sym s.gone ∙ c.requires.there) (c.proceed.ensures.gone ∙ c.requires.there)
    (c.in_default.ensures.err seat next heard v s) c.print_session.result c.print_session.ensures.ok c.print_session.ensures.err

pub returns-clause-err : goal.returns-clause-err
returns-clause-err c =
    on_err_weaker c.print_session-2.result
    (λ e seat next heard v s. subst (λ (p : SeatedSession). WentOn Serves false seat c.args.number next heard v c.args.store.now c.proceed.new.store c.args.out.now.items c.print_session-2.new.out.items p) (sym e.0)
    (subst (λ (t : List ℕ). WentOn Serves false seat c.args.number next heard v c.args.store.now c.proceed.new.store c.args.out.now.items t c.proceed.new.self) (sym e.1)
    (unprinted Serves true seat c.args.number next heard v c.args.store.now c.proceed.new.store c.args.out.now.items c.proceed.new.self (sym s.gone ∙ c.requires.there) (c.in-Ok.ensures.ok seat next heard v s)))) c.print_session-2.ensures.err

pub returns-clause-ok : goal.returns-clause-ok
returns-clause-ok c =
    on_ok_weaker c.print_session-2.result
    (λ e seat next heard v s. subst (λ (p : SeatedSession). WentOn Serves true seat c.args.number next heard v c.args.store.now c.proceed.new.store c.args.out.now.items c.print_session-2.new.out.items p) (sym e.0)
    (went_on Serves true seat c.args.number next heard v c.args.store.now c.proceed.new.store c.args.out.now.items c.print_session-2.new.out.items c.proceed.new.self (sym s.gone ∙ c.requires.there) (c.proceed.ensures.gone ∙ c.requires.there)
    (c.in-Ok.ensures.ok seat next heard v s) e.1)) c.print_session-2.ensures.ok

pub returns-clause-delivery : goal.returns-clause-delivery
returns-clause-delivery c = let a = c.proceed.ensures.asked in met_delivery c.args.store.now c.proceed.new.store a.0 a.1

pub returns-in_default-clause-delivery : goal.returns-in_default-clause-delivery
returns-in_default-clause-delivery c = let a = c.proceed.ensures.asked in met_delivery c.args.store.now c.proceed.new.store a.0 a.1

pub returns-in_default-clause-works : goal.returns-in_default-clause-works
returns-in_default-clause-works c = inl c.in_default.ensures.asks

pub returns-clause-works : goal.returns-clause-works
returns-clause-works c = on_err_weaker c.print_session-2.result (λ l. inr l) c.print_session-2.ensures.words
