use Rattle.std.proofs.Common.{◌≡◌, ◌++◌, length}
use Rattle.imap_grammar.specs.Sets.{ranges_of}
use Rattle.imap_grammar.proofs.ranges.ranges_in.Given as goal

abbrev pub invariant-loop-part : goal.invariant-loop-part
invariant-loop-part l = l.ranges.items ++ ranges_of l.rest ≡ ranges_of l.text

abbrev pub decreases-loop-part : goal.decreases-loop-part
decreases-loop-part l = length l.rest
