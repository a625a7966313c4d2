use Rattle.std.proofs.Common.{refl}
use Rattle.std.specs.Prelude.{option_to_list}
use Rattle.change_ring.proofs.WindowLaws.{IsWindowOf-push}
use Rattle.mailbox.proofs.WindowMoves.{taken}
use Rattle.mailbox.proofs.logging.log_change.Goals as goal

pub returns-clause-goes_on : goal.returns-clause-goes_on
returns-clause-goes_on c = λ log is.
    IsWindowOf-push c.args.ring.now c.push.new.self log c.args.change (option_to_list c.in_ok-_lost._lost) is c.in_ok-_lost.ensures.window c.in_ok-_lost.ensures.base

pub returns-clause-moves : goal.returns-clause-moves
returns-clause-moves c =
    let p = c.in_ok-_lost.ensures in
    let r = c.capacity-room.ensures in (
      c.push.new.self,
      taken c.args.cursors.now c.args.ring.now c.push.new.self c.args.change c.in_ok-_lost._lost p.window p.base p.capacity p.max p.full p.within r.within r.some
          (λ more some. c.wanted_from-keep_from.ensures (p.wanted more) some),
      refl,
    )
