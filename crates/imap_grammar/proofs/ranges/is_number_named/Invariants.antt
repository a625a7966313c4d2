use Rattle.std.proofs.Common.{◌≡◌, length}
use Rattle.imap_grammar.specs.Sets.{ranges_of, is_named}
use Rattle.imap_grammar.proofs.ranges.is_number_named.Given as goal

abbrev pub invariant-loop-part : goal.invariant-loop-part
invariant-loop-part l = is_named (ranges_of l.rest) l.greatest l.n ≡ is_named (ranges_of l.text) l.greatest l.n

abbrev pub decreases-loop-part : goal.decreases-loop-part
decreases-loop-part l = length l.rest
