use Rattle.std.proofs.Common.{◌≡◌, ◌++◌, length}
use Rattle.std.specs.Io.{StartsWith}
use Rattle.line_io.specs.Wire.{marked}
use Rattle.line_io.proofs.marks.append_lines.Given as goal

abbrev pub invariant-loop-line : goal.invariant-loop-line
invariant-loop-line l = record {
  so_far : l.out.items ++ marked l.letter l.number l.rest ≡ l.initial.out.items ++ marked l.letter l.number l.fn.said;
  front : StartsWith l.out.items l.initial.out.items;
}

abbrev pub decreases-loop-line : goal.decreases-loop-line
decreases-loop-line l = length l.rest
