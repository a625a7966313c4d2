use Rattle.std.proofs.Common.{◌≡◌, ℕ, ◌+◌, ◌<◌, length, take, get_or}
use Rattle.imap_grammar.specs.Sets.{is_named}
use Rattle.imap_grammar.specs.inner.Choosing.{is_covered}
use Rattle.imap_grammar.proofs.positions.positions_of_named_uids.Given as goal

abbrev pub invariant-loop-range : goal.invariant-loop-range
invariant-loop-range l = (i : ℕ) → i < length l.view → is_covered l.positions.items (i + 1) ≡ is_named (take l.range-index l.ranges) l.greatest (get_or l.view i 0)
