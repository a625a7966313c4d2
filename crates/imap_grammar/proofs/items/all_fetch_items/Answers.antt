use Rattle.std.proofs.Common.{◌≡◌, ℕ, Bool, true, false, List, ap, sym, refl, ◌∙◌}
use Rattle.std.specs.Prelude.{◌&&◌, is_some, not}
use Rattle.std.specs.List.{list_all}
use Rattle.imap_grammar.specs.Brackets.{item_words}
use Rattle.imap_grammar.specs.Items.{fetch_item_of}
use Rattle.imap_grammar.proofs.Tokens.{not_true}
use Rattle.imap_grammar.proofs.items.all_fetch_items.Goals as goal

abbrev is_item : List ℕ → Bool
is_item word = is_some (fetch_item_of word)

not_false : (t : Bool) → not t ≡ false → t ≡ true
not_false true e = refl
not_false false e = absurd cc

pub returns-then-is_no_item : goal.returns-then-is_no_item
returns-then-is_no_item c =
    sym (sym c.loop-word.invariant
    ∙ ap (list_all is_item) c.in-Some.ensures.first
    ∙ ap (λ (t : Bool). t && list_all is_item (item_words c.in-Some.others.now)) (not_true (is_item c.in-Some.word.now) (sym c.is_no_item.ensures ∙ c.if-is_no_item.true)))

pub loop-word-preserved : goal.loop-word-preserved
loop-word-preserved c =
    sym (ap (list_all is_item) c.in-Some.ensures.first
    ∙ ap (λ (t : Bool). t && list_all is_item (item_words c.in-Some.others.now)) (not_false (is_item c.in-Some.word.now) (sym c.is_no_item.ensures ∙ c.if-is_no_item.false)))
    ∙ c.loop-word.invariant
