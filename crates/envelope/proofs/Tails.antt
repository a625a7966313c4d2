-- What stands behind a path is parameters and spaces.
use Rattle.std.proofs.Common.{◌≡◌, ℕ, zero, suc, ◌+◌, ◌<◌, Bool, true, false, cond, List, [], ◌∷◌, ◌++◌, length, take, drop, refl, ap, sym, subst, ◌∙◌, arith, length-append, length-take, length-drop, append_assoc}
use Rattle.std.specs.Prelude.{◌==◌, ◌&&◌, ◌||◌, not}
use Rattle.std.specs.List.{prefix_len, list_all}
use Rattle.std.proofs.lemmas.List.{take-append-drop}
use Rattle.std.proofs.lemmas.List.Sums.{prefix_len-le-length}
use Rattle.std.proofs.lemmas.Bool.Decides.{Decides-eqb, nat_tests}
use Rattle.envelope.proofs.Case.{decides_false}
use Rattle.envelope.proofs.Tokens.{Stops}
use Rattle.envelope.proofs.Sound.{many_taken}
use Rattle.envelope.proofs.Words.{both_true, first_of_or, words_gap, words_spaces, word_then, append_none}
use Rattle.envelope.proofs.Begins.{not_not}
use Rattle.envelope.specs.Bytes.{is_space, is_not_space, is_text, is_graphic}
use Rattle.envelope.specs.Grammar.{Many, Some1, Spaces, Gap, Parameters}
use Rattle.envelope.specs.Reading.{first_is, words, is_tail}

after_more : (p : ℕ → Bool) (x : ℕ) (xs : List ℕ) (t : Bool) → p x ≡ t → Stops p (drop (prefix_len p xs) xs) → Stops p (drop (cond t (1 + prefix_len p xs) 0) (x ∷ xs))
after_more p x xs true e h =
    let k : 1 + prefix_len p xs ≡ suc (prefix_len p xs) = omega arith in
    subst (λ (m : ℕ). Stops p (drop m (x ∷ xs))) (sym k) h
after_more p x xs false e h = e

pub stops_after : (p : ℕ → Bool) (xs : List ℕ) → Stops p (drop (prefix_len p xs) xs)
stops_after p [] = tt
stops_after p (x ∷ xs) = after_more p x xs (p x) refl (stops_after p xs)

pub starts_some : (p : ℕ → Bool) (x : ℕ) (xs : List ℕ) → p x ≡ true → 0 < prefix_len p (x ∷ xs)
starts_some p x xs e =
    let k : prefix_len p (x ∷ xs) ≡ 1 + prefix_len p xs = ap (λ (t : Bool). cond t (1 + prefix_len p xs) 0) e in
    omega (arith, k)

pub taken_length : (p : ℕ → Bool) (xs : List ℕ) → length (take (prefix_len p xs) xs) ≡ prefix_len p xs
taken_length p xs = omega (arith, prefix_len-le-length p xs, length-take (prefix_len p xs) xs)

pub all_parted : (p : ℕ → Bool) (a b : List ℕ) → list_all p (a ++ b) ≡ true → (list_all p a ≡ true) × (list_all p b ≡ true)
all_parted p [] b h = (refl, h)
all_parted p (x ∷ xs) b h =
    let k = both_true (p x) (list_all p (xs ++ b)) h in
    let l = all_parted p xs b k.1 in
    (ap (λ (t : Bool). t && list_all p xs) k.0 ∙ l.0, l.1)

pub each_of : (p : ℕ → Bool) (a : List ℕ) → list_all p a ≡ true → Many p a
each_of p [] h = tt
each_of p (x ∷ xs) h = let k = both_true (p x) (list_all p xs) h in (k.0, each_of p xs k.1)

text_graphic : (b : ℕ) → is_text b ≡ true → is_not_space b ≡ true → is_graphic b ≡ true
text_graphic b t s = grind (arith, nat_tests)

graphics : (w : List ℕ) → Many is_text w → Many is_not_space w → Many is_graphic w
graphics [] t s = tt
graphics (x ∷ xs) t s = (text_graphic x t.0 s.0, graphics xs t.1 s.1)

pub record Tail (bytes : List ℕ) : Type 0 where
  pub text : List ℕ
  pub spaces : List ℕ
  pub parts : bytes ≡ text ++ spaces
  pub parameters : Parameters (words bytes) text
  pub blank : Spaces spaces

stop_first : (rest : List ℕ) → Stops is_not_space rest → (first_is 32 rest || (length rest == 0)) ≡ true
stop_first [] s = refl
stop_first (x ∷ xs) s = ap (λ (t : Bool). t || (length (x ∷ xs) == 0)) (not_not (is_space x) s)

-- behind a gap: nothing more, or a word and what comes after it
blank_tail : (gap bytes : List ℕ) → bytes ≡ gap ++ [] → Spaces gap → Tail bytes
blank_tail gap bytes e s =
    let same : bytes ≡ gap = e ∙ append_none gap in
    let none : words bytes ≡ [] = ap words same ∙ words_spaces gap s in
    record { text = []; spaces = gap; parts = same; parameters = subst (λ (l : List (List ℕ)). Parameters l []) (sym none) refl; blank = s }

word_tail : (gap w rest bytes : List ℕ) → bytes ≡ gap ++ (w ++ rest) → Gap gap → Some1 is_graphic w → Stops is_not_space rest → Tail rest → Tail bytes
word_tail gap w rest bytes e g h s t =
    let found : words bytes ≡ w ∷ words rest = ap words e ∙ words_gap gap (w ++ rest) g.1 ∙ word_then w rest h (stop_first rest s) in
    record {
      text = gap ++ (w ++ t.text);
      spaces = t.spaces;
      parts = e ∙ ap (λ (l : List ℕ). gap ++ (w ++ l)) t.parts ∙ simp append_assoc;
      parameters = subst (λ (l : List (List ℕ)). Parameters l (gap ++ (w ++ t.text))) (sym found)
          (record { front = gap; back = w ++ t.text; parts = refl; first = g; second = record { front = w; back = t.text; parts = refl; first = (refl, h); second = t.parameters } });
      blank = t.blank;
    }

-- what follows the gap, by its first byte
next_tail : (gap y bytes : List ℕ) → bytes ≡ gap ++ y → Gap gap → Stops is_space y → list_all is_text y ≡ true
    → ((rest : List ℕ) → length rest < length bytes → is_tail rest ≡ true → Tail rest) → Tail bytes
next_tail gap [] bytes e g s t again = blank_tail gap bytes e g.1
next_tail gap (c ∷ cs) bytes e g s t again =
    let y = c ∷ cs in
    let j = prefix_len is_not_space y in
    let w = take j y in
    let rest = drop j y in
    let some : 0 < j = starts_some is_not_space c cs (ap not s) in
    let size : length w ≡ j = taken_length is_not_space y in
    let whole : y ≡ w ++ rest = sym (take-append-drop j y) in
    let texts = all_parted is_text w rest (ap (list_all is_text) (sym whole) ∙ t) in
    let h : Some1 is_graphic w = (omega arith, graphics w (each_of is_text w texts.0) (many_taken is_not_space y)) in
    let st = stops_after is_not_space y in
    let shorter : length rest < length bytes = omega (arith, ap length e, length-append gap y, length-drop j y, g.0) in
    let tail : is_tail rest ≡ true = ap (λ (u : Bool). u && list_all is_text rest) (stop_first rest st) ∙ texts.1 in
    word_tail gap w rest bytes (e ∙ ap (λ (l : List ℕ). gap ++ l) whole) g h st (again rest shorter tail)

tail_within : (n : ℕ) (bytes : List ℕ) → length bytes < n → is_tail bytes ≡ true → Tail bytes
tail_within zero bytes h t = absurd (omega arith)
tail_within (suc n) [] h t = blank_tail [] [] refl tt
tail_within (suc n) (x ∷ xs) h t =
    let bytes = x ∷ xs in
    let k = both_true _ _ t in
    let first : is_space x ≡ true = first_of_or (x == 32) (length bytes == 0) (decides_false (length bytes == 0) (Decides-eqb (length bytes) 0) (λ e. omega (arith, e))) k.0 in
    let j = prefix_len is_space bytes in
    let gap = take j bytes in
    let y = drop j bytes in
    let size : length gap ≡ j = taken_length is_space bytes in
    let some = starts_some is_space x xs first in
    let whole : bytes ≡ gap ++ y = sym (take-append-drop j bytes) in
    let texts = all_parted is_text gap y (ap (list_all is_text) (sym whole) ∙ k.1) in
    next_tail gap y bytes whole (omega arith, many_taken is_space bytes) (stops_after is_space bytes) texts.1
    (λ rest s u. tail_within n rest (omega arith) u)

pub tail_sound : (bytes : List ℕ) → is_tail bytes ≡ true → Tail bytes
tail_sound bytes t = tail_within (suc (length bytes)) bytes (omega arith) t
