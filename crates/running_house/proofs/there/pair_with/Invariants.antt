use Rattle.std.proofs.Common.{◌≡◌, drop}
use Rattle.running_house.specs.Walk.{pair_with}
use Rattle.running_house.proofs.there.pair_with.Given as goal

abbrev pub invariant-loop-position : goal.invariant-loop-position
invariant-loop-position l = pair_with l.uid (drop l.position l.accepted) ≡ pair_with l.uid l.accepted
