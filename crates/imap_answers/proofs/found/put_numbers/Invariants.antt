use Rattle.std.specs.Prelude.{◌≤◌, decimal, codes}
use Rattle.std.specs.Prelude.{vec_capacity}
use Rattle.std.proofs.Common.{◌≡◌, ◌++◌, flat_map, take}
use Rattle.std.specs.Io.{StartsWith}
use Rattle.imap_answers.proofs.found.put_numbers.Given as goal

abbrev pub invariant-loop-number : goal.invariant-loop-number
invariant-loop-number l = record {
  so_far : l.out.items ≡ l.initial.out.items ++ flat_map (λ n. codes " " ++ decimal n) (take l.number-index l.numbers);
  front : StartsWith l.out.items l.initial.out.items;
  room : vec_capacity l.initial.out ≤ vec_capacity l.out;
}
