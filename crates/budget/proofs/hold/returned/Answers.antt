use Rattle.std.proofs.Common.{arith, refl}
use Rattle.atomic_table.specs.Table.{keeps}
use Rattle.budget.specs.Counting.{gone}
use Rattle.budget.proofs.Moves.{gives}
use Rattle.budget.proofs.hold.returned.Goals as goal

pub fetch_sub-requires : goal.fetch_sub-requires
fetch_sub-requires c =
    let pool = c.args.pool.now in
    let seat = c.args.seat in (
      c.requires.table,
      let one = pool.one in omega (arith, one),
      λ s rule homes at small.
          let went = gives s.words s.views seat.id pool.table.shared.key c.args.bytes seat.me.0 rule.0 rule.1 at c.requires.holds (omega (arith, c.ranges.bytes.fits)) in
          (gone seat.me.0, keeps, tt, went, refl),
    )
