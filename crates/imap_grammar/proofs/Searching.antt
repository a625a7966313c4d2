-- Words in a text, one byte further.
use Rattle.std.proofs.Common.{◌≡◌, ℕ, ◌+◌, ◌<◌, Bool, true, false, cond, List, [], ◌∷◌, length, get_or, take, drop, refl, ap, sym, ◌∙◌}
use Rattle.std.specs.Prelude.{Option, Some, None, ◌==◌, ◌||◌, ◌&&◌, not}
use Rattle.std.specs.Bool.{Decides}
use Rattle.std.specs.Char.{to_ascii_lowercase}
use Rattle.std.specs.List.{list_any}
use Rattle.std.specs.Option.{option_map}
use Rattle.std.specs.Str.{str_eq_ignore_ascii_case as is_same}
use Rattle.std.proofs.lemmas.Bool.Decides.{Decides-eqb}
use Rattle.envelope.proofs.Steps.{drop_step}
use Rattle.mail_date.specs.Fields.{ends_field, is_empty_line, past_name, past_word}
use Rattle.imap_grammar.specs.Contains.{begins, body_from, body_has, contains, ends_line, fields_from, past_line, unfolded}
use Rattle.imap_grammar.specs.inner.Letters.{past_letter}
use Rattle.imap_grammar.specs.inner.Searching.{searched, first_letter}
use Rattle.imap_grammar.specs.declared.letters.Folds.{Folds}
use Rattle.imap_grammar.specs.declared.letters.Folds.TheVariants.{Kept, Dropped}

-- ---- words at the front

-- what follows words behind a letter of them
abbrev pub past_behind : Option (List ℕ) → List ℕ → Option (List ℕ)
past_behind None words = None
past_behind (Some rest) words = past_word words rest

pub past_step : (b : ℕ) (words text : List ℕ) → past_word (b ∷ words) text ≡ past_behind (past_letter b text) words
past_step b words [] = refl
past_step b words (y ∷ ys) =
    by (to_ascii_lowercase b == to_ascii_lowercase y) (to_ascii_lowercase y == to_ascii_lowercase b)
    (Decides-eqb (to_ascii_lowercase b) (to_ascii_lowercase y)) (Decides-eqb (to_ascii_lowercase y) (to_ascii_lowercase b))
  where
    by : (t u : Bool) → Decides t (to_ascii_lowercase b ≡ to_ascii_lowercase y) → Decides u (to_ascii_lowercase y ≡ to_ascii_lowercase b)
        → cond (u && is_same (take (length words) ys) words) (Some (drop (length words) ys)) None ≡ past_behind (cond t (Some ys) None) words
    by true true d e = refl
    by false false d e = refl
    by true false d e = absurd (let bad : false ≡ true = e.1 (sym (d.0 refl)) in cc)
    by false true d e = absurd (let bad : false ≡ true = d.1 (sym (e.0 refl)) in cc)

pub word_step : (words : List ℕ) (i : ℕ) (text : List ℕ) → i < length words
    → past_word (drop i words) text ≡ past_behind (past_letter (get_or words i 0) text) (drop (i + 1) words)
word_step words i text h = ap (λ l. past_word l text) (drop_step words i h) ∙ past_step (get_or words i 0) (drop (i + 1) words) text

-- ---- folds

not_cond : {A : Type 0} (t : Bool) (a b : A) → cond (not t) a b ≡ cond t b a
not_cond true a b = refl
not_cond false a b = refl

unfolded_next : (b : ℕ) (bs : List ℕ) → unfolded (b ∷ bs) ≡ cond (ends_line b) (unfolded bs) (b ∷ unfolded bs)
unfolded_next b bs = not_cond (ends_line b) (b ∷ unfolded bs) (unfolded bs)

pub unfolded_step : (xs : List ℕ) (i : ℕ) → i < length xs
    → unfolded (drop i xs) ≡ cond (ends_line (get_or xs i 0)) (unfolded (drop (i + 1) xs)) (get_or xs i 0 ∷ unfolded (drop (i + 1) xs))
unfolded_step xs i h = ap unfolded (drop_step xs i h) ∙ unfolded_next (get_or xs i 0) (drop (i + 1) xs)

letter_next : (b x : ℕ) (bs : List ℕ) → ends_line x ≡ false → option_map unfolded (past_letter b (x ∷ bs)) ≡ past_letter b (unfolded (x ∷ bs))
letter_next b x bs e =
    by (to_ascii_lowercase b == to_ascii_lowercase x)
    ∙ sym (ap (past_letter b) (unfolded_next x bs ∙ ap (λ (t : Bool). cond t (unfolded bs) (x ∷ unfolded bs)) e))
  where
    by : (t : Bool) → option_map unfolded (cond t (Some bs) None) ≡ cond t (Some (unfolded bs)) None
    by true = refl
    by false = refl

pub letter_unfolded : (b : ℕ) (xs : List ℕ) (i : ℕ) → i < length xs → ends_line (get_or xs i 0) ≡ false
    → option_map unfolded (past_letter b (drop i xs)) ≡ past_letter b (unfolded (drop i xs))
letter_unfolded b xs i h e =
    ap (λ l. option_map unfolded (past_letter b l)) (drop_step xs i h)
    ∙ letter_next b (get_or xs i 0) (drop (i + 1) xs) e
    ∙ sym (ap (λ l. past_letter b (unfolded l)) (drop_step xs i h))

-- ---- words anywhere

pub contains_none : (words text : List ℕ) → None ≡ first_letter words → true ≡ contains words text
contains_none [] [] e = refl
contains_none [] (b ∷ bs) e = refl
contains_none (w ∷ ws) text e = absurd cc

pub contains_end : (folds : Folds) (words : List ℕ) (first : ℕ) → Some first ≡ first_letter words → contains words (searched folds []) ≡ false
contains_end folds [] first e = absurd cc
contains_end Kept (w ∷ ws) first e = refl
contains_end Dropped (w ∷ ws) first e = refl

-- words at the front of a text stand in it
in_front : (t : Bool) (words text : List ℕ) → contains words text ≡ ((t && begins words text) || contains words text)
in_front t words [] = by t (begins words [])
  where
    by : (t s : Bool) → s ≡ ((t && s) || s)
    by true true = refl
    by true false = refl
    by false s = refl
in_front t words (b ∷ bs) = by t (begins words (b ∷ bs)) (contains words bs)
  where
    by : (t s u : Bool) → (s || u) ≡ ((t && s) || (s || u))
    by true true u = refl
    by true false u = refl
    by false s u = refl

first_next : (words : List ℕ) (first x : ℕ) (bs : List ℕ) → Some first ≡ first_letter words
    → contains words (x ∷ bs) ≡ (((to_ascii_lowercase x == first) && begins words (x ∷ bs)) || contains words bs)
first_next [] first x bs e = absurd cc
first_next (w ∷ ws) first x bs e =
    let k : first ≡ to_ascii_lowercase w = cc in
    by (to_ascii_lowercase x == to_ascii_lowercase w) (is_same (take (length ws) bs) ws)
    ∙ ap (λ (c : ℕ). ((to_ascii_lowercase x == c) && begins (w ∷ ws) (x ∷ bs)) || contains (w ∷ ws) bs) (sym k)
  where
    by : (t s : Bool) → ((t && s) || contains (w ∷ ws) bs) ≡ ((t && (t && s)) || contains (w ∷ ws) bs)
    by true s = refl
    by false s = refl

contains_next : (folds : Folds) (words : List ℕ) (first x : ℕ) (bs : List ℕ) → Some first ≡ first_letter words
    → contains words (searched folds (x ∷ bs))
    ≡ (((to_ascii_lowercase x == first) && begins words (searched folds (x ∷ bs))) || contains words (searched folds bs))
contains_next Kept words first x bs e = first_next words first x bs e
contains_next Dropped words first x bs e =
    ap (contains words) (unfolded_next x bs)
    ∙ by (ends_line x)
    ∙ sym (ap (λ l. ((to_ascii_lowercase x == first) && begins words l) || contains words (unfolded bs)) (unfolded_next x bs))
  where
    by : (t : Bool) → contains words (cond t (unfolded bs) (x ∷ unfolded bs))
        ≡ (((to_ascii_lowercase x == first) && begins words (cond t (unfolded bs) (x ∷ unfolded bs))) || contains words (unfolded bs))
    by true = in_front (to_ascii_lowercase x == first) words (unfolded bs)
    by false = first_next words first x (unfolded bs) e

pub contains_step : (folds : Folds) (words : List ℕ) (first : ℕ) (xs : List ℕ) (i : ℕ) → Some first ≡ first_letter words → i < length xs
    → contains words (searched folds (drop i xs))
    ≡ (((to_ascii_lowercase (get_or xs i 0) == first) && begins words (searched folds (drop i xs))) || contains words (searched folds (drop (i + 1) xs)))
contains_step folds words first xs i e h =
    let d = drop_step xs i h in
    ap (λ l. contains words (searched folds l)) d
    ∙ contains_next folds words first (get_or xs i 0) (drop (i + 1) xs) e
    ∙ sym (ap (λ l. ((to_ascii_lowercase (get_or xs i 0) == first) && begins words (searched folds l)) || contains words (searched folds (drop (i + 1) xs))) d)

-- ---- fields

abbrev pub any_has : (name words : List ℕ) → List (List ℕ) → Bool
any_has name words fields = list_any (λ field. body_has words (past_name name field)) fields

field_next : (name words : List ℕ) (starts : Bool) (b : ℕ) (bs : List ℕ)
    → any_has name words (fields_from starts (b ∷ bs))
    ≡ cond (starts && is_empty_line (b ∷ bs)) false
    ((starts && body_has words (past_name name (b ∷ bs))) || any_has name words (fields_from (ends_field b bs) bs))
field_next name words false b bs = refl
field_next name words true b bs = by (is_empty_line (b ∷ bs))
  where
    by : (t : Bool) → any_has name words (cond t [] ((b ∷ bs) ∷ fields_from (ends_field b bs) bs))
        ≡ cond t false (body_has words (past_name name (b ∷ bs)) || any_has name words (fields_from (ends_field b bs) bs))
    by true = refl
    by false = refl

pub field_step : (name words : List ℕ) (starts : Bool) (xs : List ℕ) (i : ℕ) → i < length xs
    → any_has name words (fields_from starts (drop i xs))
    ≡ cond (starts && is_empty_line (drop i xs)) false
    ((starts && body_has words (past_name name (drop i xs)))
    || any_has name words (fields_from (ends_field (get_or xs i 0) (drop (i + 1) xs)) (drop (i + 1) xs)))
field_step name words starts xs i h =
    let d = drop_step xs i h in
    ap (λ l. any_has name words (fields_from starts l)) d
    ∙ field_next name words starts (get_or xs i 0) (drop (i + 1) xs)
    ∙ sym (ap (λ l. cond (starts && is_empty_line l) false
    ((starts && body_has words (past_name name l)) || any_has name words (fields_from (ends_field (get_or xs i 0) (drop (i + 1) xs)) (drop (i + 1) xs)))) d)

pub body_step : (starts : Bool) (xs : List ℕ) (i : ℕ) → i < length xs
    → body_from starts (drop i xs)
    ≡ cond (starts && is_empty_line (drop i xs)) (past_line (drop i xs)) (body_from (get_or xs i 0 == 10) (drop (i + 1) xs))
body_step starts xs i h = rw (drop_step xs i h) refl
