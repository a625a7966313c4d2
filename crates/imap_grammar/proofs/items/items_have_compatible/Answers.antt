use Rattle.imap_grammar.specs.Brackets.{item_words}
use Rattle.std.proofs.Common.{Bool, ap, sym, ◌∙◌}
use Rattle.std.specs.Prelude.{◌||◌}
use Rattle.std.specs.List.{list_any}
use Rattle.imap_grammar.specs.Items.{fetch_item_of, fetch_items_of}
use Rattle.imap_grammar.specs.Items.{is_compatible}
use Rattle.imap_grammar.proofs.ItemSteps.{any_step}
use Rattle.imap_grammar.proofs.items.items_have_compatible.Goals as goal

pub returns-then-word_is_compatible : goal.returns-then-word_is_compatible
returns-then-word_is_compatible c =
    sym (sym c.loop-word.invariant
    ∙ any_step item_words is_compatible fetch_item_of c.loop-word.rest.now c.in-Some.word.now c.in-Some.others.now c.in-Some.ensures.first
    ∙ ap (λ (t : Bool). t || list_any is_compatible (fetch_items_of c.in-Some.others.now)) (sym c.word_is_compatible.ensures ∙ c.if-word_is_compatible.true))

pub loop-word-preserved : goal.loop-word-preserved
loop-word-preserved c =
    sym (any_step item_words is_compatible fetch_item_of c.loop-word.rest.now c.in-Some.word.now c.in-Some.others.now c.in-Some.ensures.first
    ∙ ap (λ (t : Bool). t || list_any is_compatible (fetch_items_of c.in-Some.others.now)) (sym c.word_is_compatible.ensures ∙ c.if-word_is_compatible.false))
    ∙ c.loop-word.invariant
