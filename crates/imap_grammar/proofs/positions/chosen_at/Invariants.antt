use Rattle.std.proofs.Common.{◌≡◌, ◌≤◌, ◌+◌, ◌-◌, ◌++◌, drop, length}
use Rattle.imap_grammar.specs.Sets.{at_positions}
use Rattle.imap_grammar.specs.inner.Choosing.{is_covered}
use Rattle.imap_grammar.proofs.positions.chosen_at.Given as goal

abbrev pub invariant-loop-range : goal.invariant-loop-range
invariant-loop-range l = record {
  least : 1 ≤ l.next;
  most : l.next ≤ length l.view + 1;
  left : l.chosen.items ++ at_positions (is_covered (drop l.range-index l.ranges)) l.next (drop (l.next - 1) l.view) ≡ at_positions (is_covered l.ranges) 1 l.view;
}
