use Rattle.std.proofs.Common.{◌≡◌, length}
use Rattle.imap_grammar.specs.Sets.{ranges_of, is_too_high}
use Rattle.imap_grammar.proofs.ranges.is_one_too_high.Given as goal

abbrev pub invariant-loop-part : goal.invariant-loop-part
invariant-loop-part l = is_too_high (ranges_of l.rest) l.count ≡ is_too_high (ranges_of l.text) l.count

abbrev pub decreases-loop-part : goal.decreases-loop-part
decreases-loop-part l = length l.rest
