-- A text's words, one after the other.
use Rattle.std.proofs.Common.{◌≡◌, ℕ, ◌<◌, Bool, true, false, cond, List, [], ◌∷◌, ◌++◌, length, take, arith, refl, ap, sym, ◌∙◌, length-drop}
use Rattle.std.specs.Prelude.{not, ◌==◌, filter}
use Rattle.std.specs.List.{prefix_len, AllByRecursion}
use Rattle.std.proofs.lemmas.List.{take-append-drop}
use Rattle.std.proofs.lemmas.List.Splits.{slice_split_none, slice_split_at}
use Rattle.std.proofs.lemmas.List.Elements.{All-from_recursion}
use Rattle.std.proofs.lemmas.Bool.Decides.{Decides-eqb}
use Rattle.envelope.proofs.Case.{decides_false}
use Rattle.envelope.proofs.Begins.{not_not}
use Rattle.envelope.proofs.Sound.{many_taken}
use Rattle.envelope.proofs.Tails.{stops_after, taken_length, starts_some}
use Rattle.envelope.proofs.Tokens.{Stops}
use Rattle.envelope.proofs.Words.{space_is, words_gap, append_none}
use Rattle.envelope.specs.Bytes.{is_space, is_not_space}
use Rattle.envelope.specs.Grammar.{Many, Some1}
use Rattle.envelope.specs.Reading.{words, has_bytes, after_spaces}
use Rattle.imap_grammar.specs.Reading.{word_at}

not_true : (t : Bool) → not t ≡ true → t ≡ false
not_true true e = absurd cc
not_true false e = refl

unspaced : (w : List ℕ) → Many is_not_space w → AllByRecursion (λ b. is_space b ≡ false) w
unspaced [] h = tt
unspaced (x ∷ xs) h = (not_true (is_space x) h.0, unspaced xs h.1)

has_some : (w : List ℕ) → 0 < length w → has_bytes w ≡ true
has_some w h = ap not (decides_false (length w == 0) (Decides-eqb (length w) 0) (λ e. omega arith))

pub word_alone : (w : List ℕ) → Some1 is_not_space w → words w ≡ w ∷ []
word_alone w h =
    ap (filter has_bytes) (slice_split_none is_space w (All-from_recursion _ w (unspaced w h.1)))
    ∙ ap (λ (t : Bool). cond t (w ∷ []) []) (has_some w h.0)

spaced_word : (w rest : List ℕ) → Some1 is_not_space w → words (w ++ 32 ∷ rest) ≡ w ∷ words rest
spaced_word w rest h =
    ap (filter has_bytes) (slice_split_at is_space w 32 rest (All-from_recursion _ w (unspaced w h.1)) refl)
    ∙ ap (λ (t : Bool). cond t (w ∷ words rest) (words rest)) (has_some w h.0)

pub word_then : (w rest : List ℕ) → Some1 is_not_space w → Stops is_not_space rest → words (w ++ rest) ≡ w ∷ words rest
word_then w [] h s = ap words (append_none w) ∙ word_alone w h
word_then w (x ∷ xs) h s =
    let is : x ≡ 32 = space_is x (not_not (is_space x) s) in
    ap (λ (y : ℕ). words (w ++ y ∷ xs)) is ∙ spaced_word w xs h ∙ ap (λ (y : ℕ). w ∷ words (y ∷ xs)) (sym is)

-- past the spaces stand the same words
pub words_after : (text : List ℕ) → words text ≡ words (after_spaces text)
words_after text =
    ap words (sym (take-append-drop (prefix_len is_space text) text))
    ∙ words_gap (take (prefix_len is_space text) text) (after_spaces text) (many_taken is_space text)

pub no_word : (text : List ℕ) → length (after_spaces text) ≡ 0 → words text ≡ []
no_word text h = words_after text ∙ ap words (empty (after_spaces text) h)
  where
    empty : (xs : List ℕ) → length xs ≡ 0 → xs ≡ []
    empty [] e = refl
    empty (x ∷ xs) e = absurd (omega (arith, e))

first_word : (text : List ℕ) → 0 < length text → Stops is_space text → words text ≡ (word_at text).0 ∷ words (word_at text).1
first_word [] n s = absurd (omega (arith, n))
first_word (x ∷ xs) n s =
    let text = x ∷ xs in
    let size : length (word_at text).0 ≡ prefix_len is_not_space text = taken_length is_not_space text in
    let some : 0 < prefix_len is_not_space text = starts_some is_not_space x xs (ap not s) in
    ap words (sym (take-append-drop (prefix_len is_not_space text) text))
    ∙ word_then (word_at text).0 (word_at text).1 (omega arith, many_taken is_not_space text) (stops_after is_not_space text)

pub one_word : (text : List ℕ) → 0 < length (after_spaces text) → words text ≡ (word_at (after_spaces text)).0 ∷ words (word_at (after_spaces text)).1
one_word text n = words_after text ∙ first_word (after_spaces text) n (stops_after is_space text)

-- what follows the first word is shorter
pub word_shorter : (text : List ℕ) → 0 < length text → Stops is_space text → 0 < prefix_len is_not_space text
word_shorter [] n s = absurd (omega (arith, n))
word_shorter (x ∷ xs) n s = starts_some is_not_space x xs (ap not s)

pub rest_shorter : (text : List ℕ) → 0 < length (after_spaces text) → length (word_at (after_spaces text)).1 < length text
rest_shorter text n =
    let start = after_spaces text in
    let some = word_shorter start n (stops_after is_space text) in
    omega (arith, some, length-drop (prefix_len is_not_space start) start, length-drop (prefix_len is_space text) text)
