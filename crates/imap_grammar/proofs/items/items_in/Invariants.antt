use Rattle.std.proofs.Common.{◌≡◌, ◌++◌, length}
use Rattle.imap_grammar.specs.Items.{fetch_items_of}
use Rattle.imap_grammar.proofs.items.items_in.Given as goal

abbrev pub invariant-loop-word : goal.invariant-loop-word
invariant-loop-word l = l.items.items ++ fetch_items_of l.rest ≡ fetch_items_of l.text

abbrev pub decreases-loop-word : goal.decreases-loop-word
decreases-loop-word l = length l.rest
