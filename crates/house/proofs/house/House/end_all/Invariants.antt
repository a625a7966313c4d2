use Rattle.std.proofs.Common.{◌≡◌, ◌+◌, length}
use Rattle.house.specs.inner.Trying.{DidStints, ends}
use Rattle.house.proofs.Closing.{IsFor}
use Rattle.house.proofs.house.House.end_all.Given as goal

abbrev pub invariant-loop-seat : goal.invariant-loop-seat
invariant-loop-seat l = (l.self.directory ≡ l.fn.self.directory) × DidStints (IsFor (length l.fn.self.callers + length l.fn.self.visitors) l.shard) (λ k. ends l.seat l.shard) l.fn.self l.fn.out.items l.self l.out.items l.moved
