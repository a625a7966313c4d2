use Rattle.std.specs.Prelude.{◌≤◌}
use Rattle.std.specs.Prelude.{vec_capacity}
use Rattle.std.proofs.Common.{◌≡◌, ◌++◌, flat_map, take, length}
use Rattle.line_io.proofs.parts.append_parts.Given as goal

abbrev pub invariant-loop-part : goal.invariant-loop-part
invariant-loop-part l = record {
  so_far : l.out.items ≡ l.initial.out.items ++ flat_map (λ p. p.now) (take l.part-index l.parts);
  start : l.before ≡ length l.initial.out.items;
  room : vec_capacity l.initial.out ≤ vec_capacity l.out;
}
