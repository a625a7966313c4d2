use Rattle.std.proofs.Common.{◌∙◌, inl, inr, sym, subst}
use Rattle.std.specs.Prelude.{true, false}
use Rattle.lmtp_machine.specs.declared.connection.What.TheVariants.{More}
use Rattle.house_peers.specs.HouseConnection.{HouseConnection}
use Rattle.house.specs.inner.Steps.{ConnectionWent}
use Rattle.house.proofs.Printed.{in_part, part_printed, went, went_unprinted}
use Rattle.house.proofs.Settlement.{on_err}
use Rattle.house.proofs.printing.proceed.Goals as goal

pub returns-in_default-clause-err : goal.returns-in_default-clause-err
returns-in_default-clause-err c k seat next heard b of s =
    let p = c.in_default.ensures.err k seat next heard b of.looks_up s in
    part_printed k seat next heard c.args.number b p.0 c.proceed.new.self c.print_connection.new.caller c.args.out.now.items c.print_connection.new.out.items of.numbered p.1 (c.in_default.ensures.same ∙ c.in_default.ensures.asks.0)
    c.print_connection.result c.print_connection.ensures.ok c.print_connection.ensures.err

pub returns-in_err-print_connection-clause-err : goal.returns-in_err-print_connection-clause-err
returns-in_err-print_connection-clause-err c =
    on_err c.from_residual.result _ λ k seat next heard b of s.
    let p = in_part k seat next heard b c.in-Ok.what c.proceed.new.self (c.in-Ok.ensures.ok k seat next heard b of.looks_up s) in
    let e = c.in_err-print_connection.ensures in
    subst (λ (h : HouseConnection). ConnectionWent k false seat next heard b More h c.args.out.now.items c.print_connection-2.new.out.items) (sym e.err.0)
    (went_unprinted k seat next heard b c.in-Ok.what c.proceed.new.self c.args.out.now.items c.print_connection-2.new.out.items p e.asks e.err.1)

pub returns-clause-ok : goal.returns-clause-ok
returns-clause-ok c k seat next heard b of s =
    let p = c.in-Ok.ensures.ok k seat next heard b of.looks_up s in
    let e = c.in_ok-print_connection.ensures.ok in
    subst (λ (h : HouseConnection). ConnectionWent k true seat next heard b c.in-Ok.what h c.args.out.now.items c.print_connection-2.new.out.items) (sym e.0)
    (went k seat next heard c.args.number b c.in-Ok.what c.proceed.new.self c.args.out.now.items c.print_connection-2.new.out.items of.numbered p e.1)

pub returns-in_default-clause-works : goal.returns-in_default-clause-works
returns-in_default-clause-works c = inl c.in_default.ensures.asks.1

pub returns-in_err-print_connection-clause-works : goal.returns-in_err-print_connection-clause-works
returns-in_err-print_connection-clause-works c = on_err c.from_residual.result _ (inr c.in_err-print_connection.ensures.words)
