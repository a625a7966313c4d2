-- The ranges of a set, one after the other.
use Rattle.std.proofs.Common.{◌≡◌, ℕ, List, [], ◌++◌, refl, ap, sym, ◌∙◌}
use Rattle.std.specs.Prelude.{codes, Option, Some, None, ◌||◌}
use Rattle.std.specs.List.{filter_map, cons_option}
use Rattle.std.specs.Option.{option_to_list}
use Rattle.std.proofs.lemmas.List.Folds.{list_any-append}
use Rattle.imap_grammar.specs.Cuts.{cut_at}
use Rattle.imap_grammar.specs.Sets.{range_of, ranges_of, is_too_high, is_above, is_named, is_between, numeric}
use Rattle.imap_grammar.specs.Keys.{all_messages}
use Rattle.imap_grammar.specs.declared.set.SeqRange.{SeqRange}
use Rattle.imap_grammar.proofs.Cuts.{split_cut, split_end}

pub option_joined : {A : Type 0} (o : Option A) (xs : List A) → cons_option o xs ≡ option_to_list o ++ xs
option_joined None xs = refl
option_joined (Some x) xs = refl

pub ranges_cut : (text part others : List ℕ) → Some (part, others) ≡ cut_at 44 text → ranges_of text ≡ option_to_list (range_of part) ++ ranges_of others
ranges_cut text part others h =
    ap (filter_map range_of) (split_cut 44 text part others (sym h)) ∙ option_joined (range_of part) (ranges_of others)

pub ranges_end : (text : List ℕ) → None ≡ cut_at 44 text → ranges_of text ≡ option_to_list (range_of text)
ranges_end text h =
    ap (filter_map range_of) (split_end 44 text (sym h)) ∙ one (range_of text)
  where
    one : (o : Option SeqRange) → cons_option o [] ≡ option_to_list o
    one None = refl
    one (Some x) = refl

pub high_joined : (a b : List SeqRange) (count : ℕ) → is_too_high (a ++ b) count ≡ (is_too_high a count || is_too_high b count)
high_joined a b count = list_any-append (λ range. is_above count range.from || is_above count range.to) a b

pub high_step : (rest part others : List ℕ) (count : ℕ) → Some (part, others) ≡ cut_at 44 rest
    → is_too_high (ranges_of rest) count ≡ (is_too_high (option_to_list (range_of part)) count || is_too_high (ranges_of others) count)
high_step rest part others count h =
    ap (λ (set : List SeqRange). is_too_high set count) (ranges_cut rest part others h) ∙ high_joined (option_to_list (range_of part)) (ranges_of others) count

pub named_step : (rest part others : List ℕ) (greatest n : ℕ) → Some (part, others) ≡ cut_at 44 rest
    → is_named (ranges_of rest) greatest n
    ≡ (is_named (option_to_list (range_of part)) greatest n || is_named (ranges_of others) greatest n)
named_step rest part others greatest n h =
    ap (λ (set : List SeqRange). is_named set greatest n) (ranges_cut rest part others h)
    ∙ list_any-append (λ range. is_between (numeric greatest range.from) (numeric greatest range.to) n) (option_to_list (range_of part)) (ranges_of others)

pub all_said : ranges_of (codes "1:*") ≡ all_messages
all_said = refl
