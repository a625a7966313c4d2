use Rattle.std.proofs.Common.{length}
use Rattle.house.proofs.IdleSettling.{FirstTurns}
use Rattle.house.proofs.house.House.idle_all.Given as goal

abbrev pub invariant-loop-place : goal.invariant-loop-place
invariant-loop-place l = FirstTurns (length l.fn.self.visitors) l.place l.fn.self l.fn.out.items l.self l.out.items
