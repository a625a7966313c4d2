use Rattle.std.specs.Prelude.{◌≤◌, map, vec_capacity}
use Rattle.std.proofs.Common.{◌≡◌, ◌++◌, length}
use Rattle.std.specs.Io.{StartsWith}
use Rattle.change_ring.specs.Words.{spaced}
use Rattle.imap_answers.specs.Answers.{status_text}
use Rattle.imap_answers.specs.inner.Joined.{joined, whole}
use Rattle.imap_answers.proofs.status.put_status_items.Given as goal

abbrev pub invariant-loop-next : goal.invariant-loop-next
invariant-loop-next l = record {
  so_far : l.out.items ++ joined l.bare (map (status_text l.status) (whole l.next)) ≡ l.initial.out.items ++ spaced (map (status_text l.status) l.items);
  front : StartsWith l.out.items l.initial.out.items;
  room : vec_capacity l.initial.out ≤ vec_capacity l.out;
}

abbrev pub decreases-loop-next : goal.decreases-loop-next
decreases-loop-next l = length (whole l.next)
