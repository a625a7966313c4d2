use Rattle.std.proofs.Common.{◌∙◌, ap, sym, subst, length}
use Rattle.delivery_token.specs.Verdicts.{Verdicts}
use Rattle.house_peers.specs.HouseConnection.{HouseConnection}
use Rattle.house_peers.specs.ConnectionStands.{StandsForConnection}
use Rattle.house_peers.specs.inner.ConnectionSteps.{SaidVerdicts}
use Rattle.house_peers.specs.Taking.{AreKnown}
use Rattle.house_peers.proofs.Connections.{said_verdicts}
use Rattle.house_peers.proofs.connection.HouseConnection.say.Goals as goal

pub returns-clause-ok : goal.returns-clause-ok
returns-clause-ok c k seat next heard b s more =
    let i = c.self.inside in
    let e = c.in_ok-answer.ensures in
    let h : HouseConnection = record { serial = i.serial; gone = i.is_gone; machine = i.machine; waits = i.incoming; unsaid = i.unsaid.items; verdicts = i.verdicts.slots } in
    let s1 = subst (λ (x : HouseConnection). StandsForConnection k seat next heard x b) (sym c.self.view_is) s in
    let known = subst (λ (x : HouseConnection). AreKnown x c.args.verdicts.now) (sym c.self.view_is) c.requires.known in
    let one = ap (λ (x : HouseConnection). length x.machine.pending) c.self.view_is ∙ c.requires.one in
    subst (λ (v : Verdicts). SaidVerdicts k seat next heard b c.args.verdicts.now (record { serial = i.serial; gone = i.is_gone; machine = c.answer.new.self; waits = i.incoming; unsaid = c.answer.new.out.items; verdicts = v.slots })) (sym c.clear.ensures)
    (said_verdicts k seat next heard b h c.answer.new.self c.args.verdicts.now c.answer.new.out.items s1 more one known e.same.0 e.same.1 e.pending e.ok)
