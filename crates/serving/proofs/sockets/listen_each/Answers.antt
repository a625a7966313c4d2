use Rattle.std.proofs.Common.{rules}
use Rattle.serving.proofs.AnnouncingLaws.{ports_more}
use Rattle.serving.proofs.sockets.listen_each.Goals as goal

pub loop-number-preserved : goal.loop-number-preserved
loop-number-preserved g c =
    let i = c.loop-number.invariant in (
      search rules,
      search rules,
      search rules,
      search rules,
      ports_more c.args.first c.loop-number.number c.port_of.result c.in_ok-bound.bound.port c.loop-number.ports.items c.push_reserved-in-loop-number.new.self.items i.4 c.port_of.ensures.given
          c.port_of.ensures.free c.in_ok-bound.ensures.port c.push_reserved-in-loop-number.ensures.items,
    )
