use Rattle.std.proofs.Common.{◌≡◌, map, take}
use Rattle.house_shared.proofs.fittings.copied.Given as goal

abbrev pub invariant-loop-one : goal.invariant-loop-one
invariant-loop-one l = map (λ c. c.items) l.copies.items ≡ map (λ c. c.items) (take l.one-index l.closings)
