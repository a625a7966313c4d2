-- Parameters and the words behind a path.
use Rattle.std.proofs.Common.{◌≡◌, ℕ, ◌<◌, Bool, true, false, cond, List, [], ◌∷◌, ◌++◌, length, refl, ap, sym, ◌∙◌, arith, append_assoc}
use Rattle.std.specs.Prelude.{◌==◌, ◌&&◌, ◌||◌, not, filter}
use Rattle.std.specs.List.{list_all, slice_split, onto_first, AllByRecursion}
use Rattle.std.proofs.lemmas.List.Splits.{slice_split_none, slice_split_at}
use Rattle.std.proofs.lemmas.List.Elements.{All-from_recursion}
use Rattle.std.proofs.lemmas.Bool.Decides.{Decides-eqb, nat_tests}
use Rattle.envelope.proofs.Case.{decides_false}
use Rattle.envelope.specs.Bytes.{is_space, is_text, is_graphic}
use Rattle.envelope.specs.Grammar.{Many, Some1, Spaces, Gap, Parameters}
use Rattle.envelope.specs.Reading.{first_is, words, has_bytes, is_tail}

pub space_is : (b : ℕ) → is_space b ≡ true → b ≡ 32
space_is b e = (Decides-eqb b 32).0 e

pub graphic_not_space : (b : ℕ) → is_graphic b ≡ true → is_space b ≡ false
graphic_not_space b e = decides_false (b == 32) (Decides-eqb b 32) (λ (k : b ≡ 32). let both : is_graphic b ≡ is_graphic 32 = ap is_graphic k in cc)

pub both_true : (a b : Bool) → (a && b) ≡ true → (a ≡ true) × (b ≡ true)
both_true true true e = (refl, refl)
both_true true false e = absurd cc
both_true false b e = absurd cc

pub first_of_or : (a b : Bool) → b ≡ false → (a || b) ≡ true → a ≡ true
first_of_or true b e h = refl
first_of_or false b e h = absurd cc

-- ---- all of a text

pub all_joined : (p : ℕ → Bool) (a b : List ℕ) → list_all p a ≡ true → list_all p b ≡ true → list_all p (a ++ b) ≡ true
all_joined p [] b h k = k
all_joined p (x ∷ xs) b h k =
    let parts = both_true (p x) (list_all p xs) h in
    ap (λ (t : Bool). t && list_all p (xs ++ b)) parts.0 ∙ all_joined p xs b parts.1 k

pub all_of : (p q : ℕ → Bool) (a : List ℕ) → ((b : ℕ) → p b ≡ true → q b ≡ true) → Many p a → list_all q a ≡ true
all_of p q [] f h = refl
all_of p q (x ∷ xs) f h = ap (λ (t : Bool). t && list_all q xs) (f x h.0) ∙ all_of p q xs f h.1

-- ---- words

pub words_gap : (gap rest : List ℕ) → Many is_space gap → words (gap ++ rest) ≡ words rest
words_gap [] rest h = refl
words_gap (s ∷ gap) rest h =
    ap (λ (t : Bool). filter has_bytes (cond t ([] ∷ slice_split is_space (gap ++ rest)) (onto_first s (slice_split is_space (gap ++ rest))))) h.0
    ∙ words_gap gap rest h.1

pub words_spaces : (sp : List ℕ) → Many is_space sp → words sp ≡ []
words_spaces [] h = refl
words_spaces (s ∷ sp) h =
    ap (λ (t : Bool). filter has_bytes (cond t ([] ∷ slice_split is_space sp) (onto_first s (slice_split is_space sp)))) h.0
    ∙ words_spaces sp h.1

unspaced : (w : List ℕ) → Many is_graphic w → AllByRecursion (λ b. is_space b ≡ false) w
unspaced [] h = tt
unspaced (x ∷ xs) h = (graphic_not_space x h.0, unspaced xs h.1)

has_some : (w : List ℕ) → 0 < length w → has_bytes w ≡ true
has_some w h = ap not (decides_false (length w == 0) (Decides-eqb (length w) 0) (λ e. omega arith))

one_word : (w : List ℕ) → Some1 is_graphic w → words w ≡ w ∷ []
one_word w h =
    ap (filter has_bytes) (slice_split_none is_space w (All-from_recursion _ w (unspaced w h.1)))
    ∙ ap (λ (t : Bool). cond t (w ∷ []) []) (has_some w h.0)

next_word : (w rest : List ℕ) → Some1 is_graphic w → words (w ++ 32 ∷ rest) ≡ w ∷ words rest
next_word w rest h =
    ap (filter has_bytes) (slice_split_at is_space w 32 rest (All-from_recursion _ w (unspaced w h.1)) refl)
    ∙ ap (λ (t : Bool). cond t (w ∷ words rest) (words rest)) (has_some w h.0)

pub append_none : (w : List ℕ) → w ++ [] ≡ w
append_none [] = refl
append_none (x ∷ xs) = ap (λ (l : List ℕ). x ∷ l) (append_none xs)

pub word_then : (w rest : List ℕ) → Some1 is_graphic w → (first_is 32 rest || (length rest == 0)) ≡ true → words (w ++ rest) ≡ w ∷ words rest
word_then w [] h e = ap words (append_none w) ∙ one_word w h
word_then w (x ∷ xs) h e =
    let t : (x == 32) ≡ true = first_of_or (x == 32) (length (x ∷ xs) == 0) (decides_false (length (x ∷ xs) == 0) (Decides-eqb (length (x ∷ xs)) 0) (λ k. omega (arith, k))) e in
    let is : x ≡ 32 = space_is x t in
    ap (λ (y : ℕ). words (w ++ y ∷ xs)) is ∙ next_word w xs h ∙ ap (λ (y : ℕ). w ∷ words (y ∷ xs)) (sym is)

-- ---- parameters

pub space_text : (b : ℕ) → is_space b ≡ true → is_text b ≡ true
space_text b e = ap is_text (space_is b e)

pub graphic_text : (b : ℕ) → is_graphic b ≡ true → is_text b ≡ true
graphic_text b e = grind (arith, nat_tests)

pub gap_first : (gap rest : List ℕ) → Gap gap → (first_is 32 (gap ++ rest) || (length (gap ++ rest) == 0)) ≡ true
gap_first [] rest h = absurd (omega (arith, h.0))
gap_first (x ∷ gap) rest h = ap (λ (t : Bool). t || (length (x ∷ (gap ++ rest)) == 0)) h.1.0

pub spaces_first : (sp : List ℕ) → Spaces sp → (first_is 32 sp || (length sp == 0)) ≡ true
spaces_first [] h = refl
spaces_first (x ∷ sp) h = ap (λ (t : Bool). t || (length (x ∷ sp) == 0)) h.0

pub is_both : (a b : Bool) → a ≡ true → b ≡ true → (a && b) ≡ true
is_both a b e f = ap (λ (t : Bool). t && b) e ∙ f

pub parameters_again : (ws : List (List ℕ)) (text sp : List ℕ) → Parameters ws text → Spaces sp → (words (text ++ sp) ≡ ws) × (is_tail (text ++ sp) ≡ true)
parameters_again [] text sp e s = (
  ap (λ (t : List ℕ). words (t ++ sp)) e ∙ words_spaces sp s,
  ap (λ (t : List ℕ). is_tail (t ++ sp)) e ∙ is_both _ _ (spaces_first sp s) (all_of is_space is_text sp space_text s),
)
parameters_again (w ∷ ws) text sp q s =
    let again = parameters_again ws q.second.back sp q.second.second s in
    let rest = q.second.back ++ sp in
    let tail = both_true _ _ again.1 in
    let whole : text ++ sp ≡ q.front ++ (w ++ rest) =
    ap (λ (t : List ℕ). t ++ sp) (q.parts ∙ ap (λ (t : List ℕ). q.front ++ t) (q.second.parts ∙ ap (λ (t : List ℕ). t ++ q.second.back) q.second.first.0)) ∙ simp append_assoc in (
      ap words whole ∙ words_gap q.front (w ++ rest) q.first.1 ∙ word_then w rest q.second.first.1 tail.0 ∙ ap (λ (l : List (List ℕ)). w ∷ l) again.0,
      ap is_tail whole ∙ is_both _ _ (gap_first q.front (w ++ rest) q.first)
          (all_joined is_text q.front (w ++ rest) (all_of is_space is_text q.front space_text q.first.1)
          (all_joined is_text w rest (all_of is_graphic is_text w graphic_text q.second.first.1.1) tail.1)),
    )
