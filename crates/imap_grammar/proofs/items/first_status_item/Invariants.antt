use Rattle.std.proofs.Common.{◌≡◌, length}
use Rattle.imap_grammar.specs.Items.{status_items_of}
use Rattle.imap_grammar.proofs.items.first_status_item.Given as goal

abbrev pub invariant-loop-word : goal.invariant-loop-word
invariant-loop-word l = status_items_of l.text ≡ status_items_of l.rest

abbrev pub decreases-loop-word : goal.decreases-loop-word
decreases-loop-word l = length l.rest
