use Rattle.std.proofs.Common.{◌≡◌, length}
use Rattle.std.specs.List.{list_any}
use Rattle.imap_grammar.specs.Items.{fetch_items_of}
use Rattle.imap_grammar.specs.Items.{marks_seen}
use Rattle.imap_grammar.proofs.items.items_mark_seen.Given as goal

abbrev pub invariant-loop-word : goal.invariant-loop-word
invariant-loop-word l = list_any marks_seen (fetch_items_of l.rest) ≡ list_any marks_seen (fetch_items_of l.text)

abbrev pub decreases-loop-word : goal.decreases-loop-word
decreases-loop-word l = length l.rest
