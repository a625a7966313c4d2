use Rattle.std.proofs.Common.{◌≡◌}
use Rattle.house.specs.Effort.{effort}
use Rattle.house.proofs.Settlement.{DidOften}
use Rattle.house.proofs.house.House.stint.Given as goal

abbrev pub invariant-loop-more : goal.invariant-loop-more
invariant-loop-more l = (l.self.directory ≡ l.fn.self.directory) × DidOften l.group l.fn.self l.fn.out.items l.self l.out.items l.moved

abbrev pub decreases-loop-more : goal.decreases-loop-more
decreases-loop-more l = effort l.self
