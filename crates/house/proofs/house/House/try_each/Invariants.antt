use Rattle.std.proofs.Common.{◌≡◌, take}
use Rattle.house.proofs.Settlement.{DidTurn}
use Rattle.house.proofs.house.House.try_each.Given as goal

abbrev pub invariant-loop-event : goal.invariant-loop-event
invariant-loop-event l = (l.self.directory ≡ l.fn.self.directory) × DidTurn l.group (take l.event-index l.group) l.fn.self l.fn.out.items l.self l.out.items l.moved
