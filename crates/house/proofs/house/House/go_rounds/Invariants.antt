use Rattle.std.proofs.Common.{◌≡◌}
use Rattle.envelope.specs.Names.{is_shut}
use Rattle.house.specs.Effort.{effort}
use Rattle.house.specs.Setup.{Setup}
use Rattle.house.specs.Scene.{Scene}
use Rattle.house.specs.Settled.{is_held}
use Rattle.house.specs.Stands.{StandsFor}
use Rattle.house.specs.inner.Trying.{Went}
use Rattle.house.proofs.Settlement.{Rounds}
use Rattle.house.proofs.house.House.go_rounds.Given as goal

abbrev pub invariant-loop-moved : goal.invariant-loop-moved
invariant-loop-moved l = (l.self.directory ≡ l.fn.self.directory) × ((k : Setup) (s : Scene) → StandsFor k l.fn.self s → Went (λ k s t printed. Rounds k (is_held l.held) (is_shut l.fn.self.directory) s t printed) k s l.self l.fn.out.items l.out.items)

abbrev pub decreases-loop-moved : goal.decreases-loop-moved
decreases-loop-moved l = effort l.self
