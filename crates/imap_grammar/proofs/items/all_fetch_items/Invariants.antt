use Rattle.std.proofs.Common.{◌≡◌, length}
use Rattle.std.specs.Prelude.{is_some}
use Rattle.std.specs.List.{list_all}
use Rattle.imap_grammar.specs.Brackets.{item_words}
use Rattle.imap_grammar.specs.Items.{fetch_item_of}
use Rattle.imap_grammar.proofs.items.all_fetch_items.Given as goal

abbrev pub invariant-loop-word : goal.invariant-loop-word
invariant-loop-word l = list_all (λ word. is_some (fetch_item_of word)) (item_words l.rest) ≡ list_all (λ word. is_some (fetch_item_of word)) (item_words l.text)

abbrev pub decreases-loop-word : goal.decreases-loop-word
decreases-loop-word l = length l.rest
