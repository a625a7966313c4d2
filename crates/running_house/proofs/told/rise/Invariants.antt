use Rattle.std.proofs.Common.{◌↔◌, drop}
use Rattle.running_house.specs.Lists.{Rise, keys_of}
use Rattle.running_house.proofs.RiseLaws.{RiseFrom}
use Rattle.running_house.proofs.told.rise.Given as goal

-- what is left rises behind the last key just where the whole list rises
abbrev pub invariant-loop-pair : goal.invariant-loop-pair
invariant-loop-pair l = RiseFrom l.last (keys_of (drop l.pair-index l.pairs)) ↔ Rise (keys_of l.pairs)
