use Rattle.std.proofs.Common.{rules, add-one}
use Rattle.script.proofs.KeptLaws.{part_with_end, part_without_end}
use Rattle.script.proofs.reading.part_of_line.Goals as goal

pub returns-then-before-most-clause-part : goal.returns-then-before-most-clause-part
returns-then-before-most-clause-part c left end =
    rw add-one (part_with_end c.args.shown.now left c.len_before_end-before.result (search rules) c.len_before_end-before.ensures.before (search rules))

pub returns-clause-part : goal.returns-clause-part
returns-clause-part c left end =
    part_without_end c.args.shown.now left c.len_before_end-before.result (search rules) c.len_before_end-before.ensures.before end c.is_empty.result (search rules)
