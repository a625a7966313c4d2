use Rattle.std.proofs.Common.{◌≡◌, drop}
use Rattle.running_house.specs.Walk.{copy_with}
use Rattle.running_house.proofs.there.copy_with.Given as goal

abbrev pub invariant-loop-position : goal.invariant-loop-position
invariant-loop-position l = copy_with l.mailbox l.key (drop l.position l.copies) ≡ copy_with l.mailbox l.key l.copies
