use Rattle.std.proofs.Common.{◌≡◌, ℕ, ◌≤◌, ◌-◌, List, ◌++◌, length, take, None}
use Rattle.dot_stuffing.specs.Unstuffing.{IsBehind, StandsFor}
use Rattle.dot_stuffing.proofs.unstuffer.Unstuffer.take.Given as goal

abbrev pub invariant-loop-used : goal.invariant-loop-used
invariant-loop-used l = record {
  within : l.used ≤ length l.piece;
  max : l.self.collected.max ≡ l.initial.self.collected.max;
  behind : (front : List ℕ) → IsBehind l.initial.self.collected front → IsBehind l.self.collected front;
  live : l.self.outcome ≡ None;
  stands : (wire : List ℕ) → StandsFor l.initial.self wire → StandsFor l.self (wire ++ take l.used l.piece);
}

abbrev pub decreases-loop-used : goal.decreases-loop-used
decreases-loop-used l = length l.piece - l.used
