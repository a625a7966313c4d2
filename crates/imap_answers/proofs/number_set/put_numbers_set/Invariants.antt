use Rattle.std.proofs.Common.{◌≡◌, ◌≤◌, ◌++◌, drop}
use Rattle.std.specs.Prelude.{vec_capacity}
use Rattle.std.specs.Io.{StartsWith}
use Rattle.imap_answers.specs.Answers.{runs_text}
use Rattle.imap_answers.proofs.number_set.put_numbers_set.Given as goal

abbrev pub invariant-loop-next : goal.invariant-loop-next
invariant-loop-next l = record {
  so_far : l.out.items ++ runs_text l.first l.last (drop l.next-index l.numbers) ≡ l.initial.out.items ++ runs_text l.number l.number l.numbers;
  front : StartsWith l.out.items l.initial.out.items;
  room : vec_capacity l.initial.out ≤ vec_capacity l.out;
}
