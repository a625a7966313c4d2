use Rattle.std.proofs.Common.{◌↔◌, drop}
use Rattle.running_house.specs.Lists.{IsEachThere}
use Rattle.running_house.proofs.there.is_each_there.Given as goal

-- what is left is alike just where the whole is
abbrev pub invariant-loop-pair : goal.invariant-loop-pair
invariant-loop-pair l = IsEachThere (drop l.pair-index l.accepted) l.left ↔ IsEachThere l.accepted l.texts
