use Rattle.std.proofs.Common.{◌≡◌, ◌-◌, drop, append-nil, []}
use Rattle.std.proofs.Math.ListN.{drop_of_length-le}
use Rattle.imap_grammar.proofs.ChosenAt.{nothing_left, one_range_more}
use Rattle.imap_grammar.proofs.positions.chosen_at.Goals as goal

pub loop-range-preserved : goal.loop-range-preserved
loop-range-preserved c = record {
  least = c.in_ok-next.ensures.next.0;
  most = c.in_ok-next.ensures.next.1;
  left = one_range_more c.args.ranges.now c.loop-range.range-index (record { first = 0; last = 0 }) c.args.view.now c.loop-range.chosen.items c.choose_range.new.chosen.items _ c.loop-range.next c.in_ok-next.next c.requires c.loop-range-test.true c.in_ok-next.ensures.chosen c.loop-range.invariant.left;
}

pub returns : goal.returns
returns c =
    let none : drop c.loop-range.range-index c.args.ranges.now ≡ [] = drop_of_length-le c.args.ranges.now c.loop-range-test.false in
    let left = rw none at c.loop-range.invariant.left in
    rw (nothing_left c.loop-range.next (drop (c.loop-range.next - 1) c.args.view.now), append-nil) at left
