use Rattle.std.proofs.Common.{sym, subst}
use Rattle.house_peers.specs.HouseConnection.{HouseConnection}
use Rattle.house_peers.specs.ConnectionStands.{StandsForConnection}
use Rattle.house_peers.specs.Caller.{greeted, more_waits}
use Rattle.house_peers.proofs.Arrivals.{more_stands}
use Rattle.house.proofs.house.opened.Goals as goal

pub returns : goal.returns
returns c k next heard host most a =
    subst (λ (h : HouseConnection). StandsForConnection k c.args.seat next heard h (more_waits (greeted k c.args.seat c.args.serial) c.args.piece.now)) (sym c.in_ok-append.ensures.ok)
    (more_stands k c.args.seat next heard c.in_ok-caller.caller (greeted k c.args.seat c.args.serial) c.args.piece.now (c.in_ok-caller.ensures k next heard host most a))
