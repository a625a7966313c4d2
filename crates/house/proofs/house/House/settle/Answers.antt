use Rattle.std.proofs.lemmas.Result.{on_err_weaker, on_ok_weaker}
use Rattle.house.proofs.IdleSettling.{rounds_wanted, settled, turns_wanted}
use Rattle.house.proofs.Settlement.{on_err}
use Rattle.house.proofs.house.House.settle.Goals as goal

pub returns-in_err-go_rounds-clause-no_memory : goal.returns-in_err-go_rounds-clause-no_memory
returns-in_err-go_rounds-clause-no_memory c =
    on_err c.from_residual.result _
    λ k s st. rounds_wanted c.args.held.now k s c.go_rounds.new.self c.args.out.now.items c.go_rounds.new.out.items (c.in_err-go_rounds.ensures.err.broke_off k s tt st)

pub returns-clause-no_memory : goal.returns-clause-no_memory
returns-clause-no_memory c =
    on_err_weaker c.idle_all.result
    (λ wanted k s st. turns_wanted c.args.held.now k s c.args.self.now c.args.out.now.items c.go_rounds.new.self c.go_rounds.new.out.items c.idle_all.new.self c.idle_all.new.out.items st c.in_ok-go_rounds.ensures.ok wanted) c.idle_all.ensures.err

pub returns-clause-settles : goal.returns-clause-settles
returns-clause-settles c =
    on_ok_weaker c.idle_all.result
    (λ idled k s st. settled c.args.held.now k s c.args.self.now c.args.out.now.items c.go_rounds.new.self c.go_rounds.new.out.items c.idle_all.new.self c.idle_all.new.out.items st c.in_ok-go_rounds.ensures.ok idled) c.idle_all.ensures.ok
