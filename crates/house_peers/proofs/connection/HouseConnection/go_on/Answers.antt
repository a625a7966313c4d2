use Rattle.std.proofs.Common.{◌∙◌, ap, sym}
use Rattle.std.specs.Prelude.{true, false}
use Rattle.std.proofs.lemmas.Result.{IfOk-weaker, on_err_weaker}
use Rattle.house_peers.specs.HouseConnection.{HouseConnection}
use Rattle.house_peers.proofs.Connections.{went_works}
use Rattle.house_peers.proofs.connection.HouseConnection.go_on.Goals as goal

pub returns-clause-err : goal.returns-clause-err
returns-clause-err c =
    let quiet = ap (λ (x : HouseConnection). x.machine.pending) (sym c.self.view_is) ∙ c.self.invariant.1 c.if-self.false in
    on_err_weaker c.work_off.result
    (λ went k seat next heard b of s. let w = went k seat next heard b of s in (w.0, went_works k seat next heard false b c.args.self.now c.work_off.new.self w.0 s quiet w.1)) c.work_off.ensures.err

pub returns-clause-ok : goal.returns-clause-ok
returns-clause-ok c =
    let quiet = ap (λ (x : HouseConnection). x.machine.pending) (sym c.self.view_is) ∙ c.self.invariant.1 c.if-self.false in
    IfOk-weaker c.work_off.result _ _
    (λ what went k seat next heard b of s. went_works k seat next heard true b c.args.self.now c.work_off.new.self what s quiet (went k seat next heard b of s)) c.work_off.ensures.ok
