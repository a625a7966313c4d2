-- The items that the words of a text are, one word after the other.
use Rattle.std.proofs.Common.{◌≡◌, ℕ, Bool, List, [], ◌∷◌, ◌++◌, ap, sym, ◌∙◌, append_assoc}
use Rattle.std.specs.Prelude.{Option, ◌||◌}
use Rattle.std.specs.List.{filter_map, list_any}
use Rattle.std.specs.Option.{option_to_list}
use Rattle.std.proofs.lemmas.List.Folds.{list_any-append}
use Rattle.imap_grammar.specs.Brackets.{item_words}
use Rattle.imap_grammar.proofs.SetParts.{option_joined}

-- the items of a text, one after the other
pub items_end : {A : Type 0} (f : List ℕ → Option A) (text : List ℕ) → item_words text ≡ [] → filter_map f (item_words text) ≡ []
items_end f text h = ap (filter_map f) h

pub items_step : {A : Type 0} (f : List ℕ → Option A) (old new whole : List A) (text word rest : List ℕ) → item_words text ≡ word ∷ item_words rest → new ≡ old ++ option_to_list (f word)
    → old ++ filter_map f (item_words text) ≡ whole → new ++ filter_map f (item_words rest) ≡ whole
items_step f old new whole text word rest w n h =
    ap (λ (l : List _). l ++ filter_map f (item_words rest)) n
    ∙ append_assoc old (option_to_list (f word)) (filter_map f (item_words rest))
    ∙ ap (λ (l : List _). old ++ l) (sym (ap (filter_map f) w ∙ option_joined (f word) (filter_map f (item_words rest))))
    ∙ h

-- whether something passes, word by word
pub any_step : {A : Type 0} (W : List ℕ → List (List ℕ)) (p : A → Bool) (f : List ℕ → Option A) (text word rest : List ℕ) → W text ≡ word ∷ W rest
    → list_any p (filter_map f (W text)) ≡ (list_any p (option_to_list (f word)) || list_any p (filter_map f (W rest)))
any_step W p f text word rest h =
    ap (λ (ws : List (List ℕ)). list_any p (filter_map f ws)) h ∙ ap (list_any p) (option_joined (f word) (filter_map f (W rest)))
    ∙ list_any-append p (option_to_list (f word)) (filter_map f (W rest))
