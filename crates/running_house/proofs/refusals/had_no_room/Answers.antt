use Rattle.std.proofs.Common.{rules, arith, refl}
use Rattle.running_house.specs.Refusals.{IsNotLater}
use Rattle.running_house.proofs.RefusalLaws.{all_next, filled_next, no_room_before}
use Rattle.running_house.proofs.refusals.had_no_room.Goals as goal

pub returns-then-not-is_not_later : goal.returns-then-not-is_not_later
returns-then-not-is_not_later c told =
    let so = c.loop-index.invariant in
    no_room_before c.args.depth c.args.key.now c.args.taken.now c.loop-index.index c.index-taken-index.result c.loop-index-test.true c.index-taken-index.is
    (search rules) so.2 (so.5 told)

pub loop-index-preserved : goal.loop-index-preserved
loop-index-preserved c =
    let so = c.loop-index.invariant in
    let under = c.loop-index-test.true in
    let next = c.begun_with-begun.ensures in (
      omega (arith, under),
      next.within,
      all_next (IsNotLater c.args.key.now) c.args.taken.now c.loop-index.index c.index-taken-index.result under c.index-taken-index.is so.2 (c.if-not-is_not_later.ensures.0 refl),
      next.own,
      next.together,
      λ filled. filled_next c.args.depth c.args.key.now c.args.taken.now c.begun_with-begun.result c.loop-index.index c.index-taken-index-in-loop-index.result c.loop-index.filled under
          c.index-taken-index-in-loop-index.is next.within next.own next.together so.5 (c.is_filled-filled.ensures filled),
    )
