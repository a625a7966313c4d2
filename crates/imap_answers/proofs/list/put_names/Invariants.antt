use Rattle.std.specs.Prelude.{◌≤◌}
use Rattle.std.specs.Prelude.{vec_capacity}
use Rattle.std.proofs.Common.{◌≡◌, ◌++◌, flat_map, take}
use Rattle.std.specs.Io.{StartsWith}
use Rattle.imap_answers.specs.Answers.{listed}
use Rattle.imap_answers.proofs.list.put_names.Given as goal

abbrev pub invariant-loop-name : goal.invariant-loop-name
invariant-loop-name l = record {
  so_far : l.out.items ≡ l.initial.out.items ++ flat_map (λ name. listed l.listing l.pattern name.now) (take l.name-index l.names);
  front : StartsWith l.out.items l.initial.out.items;
  room : vec_capacity l.initial.out ≤ vec_capacity l.out;
}
