use Rattle.std.proofs.Common.{◌≡◌, ◌++◌, flat_map, take}
use Rattle.std.specs.Io.{StartsWith}
use Rattle.house.specs.Window.{change_text, tail_line}
use Rattle.house.proofs.tail.print_changes.Given as goal

abbrev pub invariant-loop-change : goal.invariant-loop-change
invariant-loop-change l = record {
  so_far : l.out.items ≡ l.initial.out.items ++ flat_map (λ c. tail_line l.word (change_text c)) (take l.change-index l.changes);
  front : StartsWith l.out.items l.initial.out.items;
}
