use Rattle.std.proofs.Common.{arith}
use Rattle.cursor_set.proofs.GapLaws.{moved_up, length_around}
use Rattle.cursor_set.proofs.gap.Gap.moved.Goals as goal

pub returns-clause-around : goal.returns-clause-around
returns-clause-around c =
    let s = c.args.self.start in
    let e = c.args.self.end in
    let to = c.copy_within.ensures.by_index in
    let count = length_around c.args.self c.args.view.now.items c.requires.gap in
    moved_up s e c.args.index c.args.view.now.items c.copy_within.new.self.items c.requires.gap.rising (omega (arith, count, c.requires.within)) (omega arith) (omega arith) to.0 to.1 to.2
