use Rattle.imap_grammar.specs.Items.{fetch_item_of}
use Rattle.imap_grammar.proofs.ItemSteps.{items_step}
use Rattle.imap_grammar.proofs.items.items_in.Goals as goal

pub loop-word-preserved : goal.loop-word-preserved
loop-word-preserved c =
    items_step fetch_item_of c.loop-word.items.items c.push_item.new.items.items _ c.loop-word.rest.now c.in-Some.word.now c.in-Some.others.now c.in-Some.ensures.first c.in_ok-push_item.ensures c.loop-word.invariant
