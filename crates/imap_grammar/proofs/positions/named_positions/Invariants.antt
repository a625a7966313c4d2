use Rattle.std.proofs.Common.{◌≡◌, ℕ, take}
use Rattle.imap_grammar.specs.Sets.{is_named}
use Rattle.imap_grammar.specs.inner.Choosing.{is_covered}
use Rattle.imap_grammar.proofs.positions.named_positions.Given as goal

abbrev pub invariant-loop-range : goal.invariant-loop-range
invariant-loop-range l = (position : ℕ) → is_covered l.positions.items position ≡ is_named (take l.range-index l.ranges) l.greatest position
