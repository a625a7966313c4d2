use Rattle.envelope.specs.Reading.{words}
use Rattle.std.proofs.Common.{Bool, ap, sym, ◌∙◌}
use Rattle.std.specs.Prelude.{◌||◌}
use Rattle.std.specs.List.{list_any}
use Rattle.imap_grammar.specs.Items.{status_item_of, status_items_of}
use Rattle.imap_grammar.specs.Items.{is_recent}
use Rattle.imap_grammar.proofs.ItemSteps.{any_step}
use Rattle.imap_grammar.proofs.items.items_have_recent.Goals as goal

pub returns-then-word_is_recent : goal.returns-then-word_is_recent
returns-then-word_is_recent c =
    sym (sym c.loop-word.invariant
    ∙ any_step words is_recent status_item_of c.loop-word.rest.now c.in-Some.word.now c.in-Some.others.now c.in-Some.ensures.first
    ∙ ap (λ (t : Bool). t || list_any is_recent (status_items_of c.in-Some.others.now)) (sym c.word_is_recent.ensures ∙ c.if-word_is_recent.true))

pub loop-word-preserved : goal.loop-word-preserved
loop-word-preserved c =
    sym (any_step words is_recent status_item_of c.loop-word.rest.now c.in-Some.word.now c.in-Some.others.now c.in-Some.ensures.first
    ∙ ap (λ (t : Bool). t || list_any is_recent (status_items_of c.in-Some.others.now)) (sym c.word_is_recent.ensures ∙ c.if-word_is_recent.false))
    ∙ c.loop-word.invariant
