use Rattle.std.proofs.Common.{sym, subst, [], List, ℕ}
use Rattle.lmtp_machine.specs.Calls.{Happens}
use Rattle.lmtp_machine.specs.Dialogue as dialogue
use Rattle.lmtp_machine.specs.LmtpMachine.{StandsFor}
use Rattle.std.specs.Prelude.{false}
use Rattle.delivery_token.specs.Verdicts.{Verdicts}
use Rattle.house_peers.specs.ConnectionStands.{StandsForConnection}
use Rattle.house_peers.specs.Caller.{greeted}
use Rattle.house_peers.proofs.Connections.{opened_stands}
use Rattle.house_peers.proofs.connection.HouseConnection.open.Goals as goal

pub returns : goal.returns
returns c k next heard kh kl ahead =
    let a = c.in_ok-machine.ensures in
    let g = c.in_ok-greet.ensures in
    subst (λ (v : Verdicts). StandsForConnection k c.args.seat next heard (record { serial = c.args.serial; gone = false; machine = c.greet.new.self; waits = c.new-2.result; unsaid = c.greet.new.out.items; verdicts = v.slots }) (greeted k c.args.seat c.args.serial)) (sym c.in_ok-verdicts.ensures)
    (subst (λ (ws : List ℕ). StandsForConnection k c.args.seat next heard (record { serial = c.args.serial; gone = false; machine = c.greet.new.self; waits = ws; unsaid = c.greet.new.out.items; verdicts = [] }) (greeted k c.args.seat c.args.serial)) (sym c.new-2.ensures)
    (opened_stands k c.args.seat next heard c.args.serial c.args.limits.max_message c.args.limits.host.now c.greet.new.out.items c.in_ok-machine.machine c.greet.new.self a.stands a.setting a.host a.quiet
    (λ d x s. subst (λ (l : List ℕ). Happens (StandsFor c.greet.new.self) c.in_ok-machine.machine.setting c.in_ok-machine.machine.host d x dialogue.Opened l c.greet.new.out.items) c.new-unsaid.ensures.items (g.ok d x s))
    g.same.0 g.same.1 g.same.2 kh kl ahead))
