use Rattle.std.proofs.Common.{◌≡◌, length}
use Rattle.std.specs.List.{list_any}
use Rattle.imap_grammar.specs.Items.{fetch_items_of}
use Rattle.imap_grammar.specs.Items.{is_compatible}
use Rattle.imap_grammar.proofs.items.items_have_compatible.Given as goal

abbrev pub invariant-loop-word : goal.invariant-loop-word
invariant-loop-word l = list_any is_compatible (fetch_items_of l.rest) ≡ list_any is_compatible (fetch_items_of l.text)

abbrev pub decreases-loop-word : goal.decreases-loop-word
decreases-loop-word l = length l.rest
