use Rattle.std.specs.Prelude.{take}
use Rattle.house.specs.Setup.{Setup}
use Rattle.house.specs.Scene.{Scene}
use Rattle.house.specs.Stands.{StandsFor}
use Rattle.exactly_once.specs.Promise.{TriedFrom}
use Rattle.exactly_once.proofs.replay.play.Given as goal

abbrev pub invariant-loop-event : goal.invariant-loop-event
invariant-loop-event l = (k : Setup) (s : Scene) → StandsFor k l.fn.house s → TriedFrom k (take l.event-index l.fn.events) l.fn.house s l.house l.fn.out.items l.out.items
