use Rattle.std.proofs.Common.{◌≡◌, ◌+◌, length}
use Rattle.house.specs.inner.Trying.{DidStints, puts}
use Rattle.house.proofs.house.House.put_all.Given as goal

abbrev pub invariant-loop-seat : goal.invariant-loop-seat
invariant-loop-seat l = (l.self.directory ≡ l.fn.self.directory) × DidStints (λ k. k.config.seats ≡ length l.fn.self.callers + length l.fn.self.visitors) (λ k. puts l.seat) l.fn.self l.fn.out.items l.self l.out.items l.moved
