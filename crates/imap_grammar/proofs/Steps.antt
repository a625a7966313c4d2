-- One byte further.
use Rattle.std.proofs.Common.{◌≡◌, ℕ, suc, ◌+◌, ◌<◌, Bool, true, false, cond, List, [], ◌∷◌, length, get_or, drop, ap, refl, sym, ◌++◌, ◌∙◌, arith, append_assoc}
use Rattle.std.specs.Prelude.{Some, None, ◌==◌, ◌||◌, ◌&&◌, not, Option}
use Rattle.std.specs.Option.{option_map}
use Rattle.std.proofs.lemmas.Bool.Decides.{Decides-eqb}
use Rattle.std.specs.Bool.{Decides}
use Rattle.envelope.specs.Names.{unquoted}
use Rattle.std.proofs.lemmas.List.{length-append}
use Rattle.envelope.proofs.Steps.{drop_step}
use Rattle.imap_grammar.specs.Bytes.{is_special, is_quotable}
use Rattle.imap_grammar.specs.Brackets.{in_bracket, outside_len}
use Rattle.imap_grammar.specs.Reading.{quoted_len}
use Rattle.std.specs.Char.{to_ascii_lowercase}
use Rattle.imap_grammar.specs.inner.Letters.{past_letter}
use Rattle.std.specs.Str.{bytes_eq, str_eq_ignore_ascii_case as is_same}
use Rattle.envelope.specs.Reading.{past_byte}
use Rattle.imap_grammar.specs.Literals.{backslashed, last_position, position_or, quoted}

pub quoted_step : (e : Bool) (xs : List ℕ) (i : ℕ) → i < length xs
    → quoted_len e (drop i xs) ≡ cond e (cond (is_special (get_or xs i 0)) (option_map suc (quoted_len false (drop (i + 1) xs))) None)
    (cond (get_or xs i 0 == 34) (Some 1)
    (cond ((get_or xs i 0 == 92) || is_quotable (get_or xs i 0)) (option_map suc (quoted_len (get_or xs i 0 == 92) (drop (i + 1) xs))) None))
quoted_step e xs i h = ap (quoted_len e) (drop_step xs i h)

pub outside_step : (c : ℕ) (within : Bool) (xs : List ℕ) (i : ℕ) → i < length xs
    → outside_len c within (drop i xs) ≡ cond (not within && (get_or xs i 0 == c)) 0 (suc (outside_len c (in_bracket within (get_or xs i 0)) (drop (i + 1) xs)))
outside_step c within xs i h = ap (outside_len c within) (drop_step xs i h)

pub unquoted_step : (e : Bool) (xs : List ℕ) (i : ℕ) → i < length xs
    → unquoted e (drop i xs) ≡ cond e (get_or xs i 0 ∷ unquoted false (drop (i + 1) xs))
    (cond (get_or xs i 0 == 34) [] (cond (get_or xs i 0 == 92) (unquoted true (drop (i + 1) xs)) (get_or xs i 0 ∷ unquoted false (drop (i + 1) xs))))
unquoted_step true xs i h = ap (unquoted true) (drop_step xs i h)
unquoted_step false xs i h = ap (unquoted false) (drop_step xs i h)

-- a text of one byte and others, and what is left of the other text behind that byte
abbrev pub same_behind : Option (List ℕ) → List ℕ → Bool
same_behind None xs = false
same_behind (Some rest) xs = bytes_eq xs rest

pub same_step : (b : ℕ) (xs ys : List ℕ) → bytes_eq (b ∷ xs) ys ≡ same_behind (past_byte b ys) xs
same_step b xs [] = refl
same_step b xs (y ∷ ys) = by (b == y) (y == b) (Decides-eqb b y) (Decides-eqb y b)
  where
    by : (t u : Bool) → Decides t (b ≡ y) → Decides u (y ≡ b) → t && bytes_eq xs ys ≡ same_behind (cond u (Some ys) None) xs
    by true true d e = refl
    by false false d e = refl
    by true false d e = absurd (let bad : false ≡ true = e.1 (sym (d.0 refl)) in cc)
    by false true d e = absurd (let bad : false ≡ true = d.1 (sym (e.0 refl)) in cc)

-- the same in upper or lower case
abbrev pub same_letters : Option (List ℕ) → List ℕ → Bool
same_letters None xs = false
same_letters (Some rest) xs = is_same xs rest

pub letter_step : (b : ℕ) (xs ys : List ℕ) → is_same (b ∷ xs) ys ≡ same_letters (past_letter b ys) xs
letter_step b xs [] = refl
letter_step b xs (y ∷ ys) = by (to_ascii_lowercase b == to_ascii_lowercase y)
  where
    by : (t : Bool) → t && is_same xs ys ≡ same_letters (cond t (Some ys) None) xs
    by true = refl
    by false = refl

-- where the last such byte stands from here on, or else before here
abbrev pub last_from : ℕ → Option ℕ → Option ℕ → Option ℕ
last_from i (Some n) last = Some (i + n)
last_from i None last = last

pub last_at_first : (o : Option ℕ) → last_from 0 o None ≡ o
last_at_first (Some n) = ap (λ (k : ℕ). Some k) (omega arith)
last_at_first None = refl

pub last_step : (b : ℕ) (xs : List ℕ) (i : ℕ) (last : Option ℕ) → i < length xs
    → last_from i (last_position b (drop i xs)) last ≡ last_from (i + 1) (last_position b (drop (i + 1) xs)) (cond (get_or xs i 0 == b) (Some i) last)
last_step b xs i last h = ap (λ l. last_from i (last_position b l) last) (drop_step xs i h) ∙ by (last_position b (drop (i + 1) xs)) (get_or xs i 0 == b)
  where
    by : (o : Option ℕ) (t : Bool) → last_from i (position_or o t) last ≡ last_from (i + 1) o (cond t (Some i) last)
    by (Some n) t = ap (λ (k : ℕ). Some k) (omega arith)
    by None true = ap (λ (k : ℕ). Some k) (omega arith)
    by None false = refl

-- a byte, and a backslash before it where it has to have one
abbrev pub one_backslashed : ℕ → List ℕ
one_backslashed b = cond (is_special b) (92 ∷ b ∷ []) (b ∷ [])

pub backslashed_step : (out xs : List ℕ) (i : ℕ) → i < length xs
    → (out ++ one_backslashed (get_or xs i 0)) ++ backslashed (drop (i + 1) xs) ≡ out ++ backslashed (drop i xs)
backslashed_step out xs i h =
    append_assoc out (one_backslashed (get_or xs i 0)) (backslashed (drop (i + 1) xs))
    ∙ ap (λ l. out ++ l) (by (is_special (get_or xs i 0)) ∙ sym (ap backslashed (drop_step xs i h)))
  where
    by : (t : Bool) → cond t (92 ∷ get_or xs i 0 ∷ []) (get_or xs i 0 ∷ []) ++ backslashed (drop (i + 1) xs)
        ≡ cond t (92 ∷ get_or xs i 0 ∷ backslashed (drop (i + 1) xs)) (get_or xs i 0 ∷ backslashed (drop (i + 1) xs))
    by true = refl
    by false = refl

pub quoted_parts : (out text : List ℕ) → ((out ++ 34 ∷ []) ++ backslashed text) ++ 34 ∷ [] ≡ out ++ quoted text
quoted_parts out text = append_assoc (out ++ 34 ∷ []) (backslashed text) (34 ∷ []) ∙ append_assoc out (34 ∷ []) (backslashed text ++ 34 ∷ [])

-- the length of what is left, a byte further
pub backslashed_len_step : (xs : List ℕ) (i : ℕ) → i < length xs → length (one_backslashed (get_or xs i 0)) + length (backslashed (drop (i + 1) xs)) ≡ length (backslashed (drop i xs))
backslashed_len_step xs i h =
    sym (length-append (one_backslashed (get_or xs i 0)) (backslashed (drop (i + 1) xs))) ∙ ap length (backslashed_step [] xs i h)
