use Rattle.house.specs.Effort.{idle_effort}
use Rattle.house.specs.Scene.{place_of}
use Rattle.house.proofs.IdleSettling.{Turns}
use Rattle.house.proofs.house.House.idle_out.Given as goal

abbrev pub invariant-loop : goal.invariant-loop
invariant-loop l = Turns l.session l.fn.self l.fn.out.items l.self l.out.items

abbrev pub decreases-loop : goal.decreases-loop
decreases-loop l = idle_effort (place_of l.session) l.self
