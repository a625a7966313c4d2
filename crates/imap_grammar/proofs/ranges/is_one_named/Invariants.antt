use Rattle.std.proofs.Common.{◌≡◌, length}
use Rattle.std.specs.Prelude.{Some}
use Rattle.imap_grammar.specs.Sets.{is_one_there, ranges_of}
use Rattle.imap_grammar.specs.inner.Choosing.{chosen_of}
use Rattle.imap_grammar.proofs.ranges.is_one_named.Given as goal

abbrev pub invariant-loop-part : goal.invariant-loop-part
invariant-loop-part l = is_one_there (Some (chosen_of l.by_uid (ranges_of l.rest) l.view)) ≡ is_one_there (Some (chosen_of l.by_uid (ranges_of l.text) l.view))

abbrev pub decreases-loop-part : goal.decreases-loop-part
decreases-loop-part l = length l.rest
