use Rattle.std.proofs.Common.{◌≡◌, ℕ, ◌≤◌, ◌-◌, List, ◌++◌, length, take, None}
use Rattle.line_io.specs.Wire.{wire_lines}
use Rattle.line_io.specs.Cutting.{StandsFor}
use Rattle.line_io.proofs.cutter.LineCutter.take.Given as goal

abbrev pub invariant-loop-used : goal.invariant-loop-used
invariant-loop-used l = record {
  within : l.used ≤ length l.piece;
  max : l.self.max ≡ l.initial.self.max;
  line : l.self.line ≡ None;
  stands : (stream : List ℕ) → StandsFor l.initial.self stream →
      StandsFor l.self (stream ++ take l.used l.piece) × (wire_lines (stream ++ take l.used l.piece) ≡ wire_lines stream);
}

abbrev pub decreases-loop-used : goal.decreases-loop-used
decreases-loop-used l = length l.piece - l.used
