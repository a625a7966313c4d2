-- How a client reads a line's bytes, its words and its numbers.
use Rattle.std.proofs.Common.{◌≡◌, ℕ, ◌+◌, ◌-◌, ◌*◌, ◌%◌, ◌/◌, ◌^◌, ◌<◌, ◌≤◌, Bool, true, false, ◌==◌, ◌&&◌, List, [], ◌∷◌, ◌++◌, length, ap, ◌∙◌, sym, refl, arith, append_assoc, length-append}
use Rattle.std.specs.Prelude.{reverse, decimal, Option, Some, None, if◌then◌else◌}
use Rattle.std.specs.List.{list_all}
use Rattle.std.proofs.lemmas.Bool.{false≢true, ne_eqb, le-leb}
use Rattle.std.proofs.lemmas.Fmt.{decimal_by_steps_wide}
use Rattle.std.proofs.lemmas.Grind.{reverse_onto}
use Rattle.std.proofs.lemmas.List.{reverse-reverse, append-nil}
use Rattle.std.proofs.lemmas.List.Folds.{list_all-append}
use Rattle.imap_grammar.specs.Bytes.{is_digit}
use Rattle.line_io.specs.Wire.{IsUncut}
use Rattle.laws_client.specs.Client.{Client, Messages, knowing, reads, on_byte, line_ends, literal_of, number}
use Rattle.laws_client.specs.ListTurns.{is_inner}
use Rattle.laws_client.specs.ListLaws.{within}
use Rattle.laws_client.proofs.Reading.{in_line, told, words, words_from, into_first, value}

pub reads-append : (c : Client) (xs ys : List ℕ) → reads c (xs ++ ys) ≡ reads (reads c xs) ys
reads-append c [] ys = refl
reads-append c (x ∷ xs) ys = reads-append (on_byte c.literal c.messages c.line x) xs ys

-- ---- bytes within a line

-- neither a space nor an LF, and no bracket that opens
abbrev pub is_word : ℕ → Bool
is_word b = if b == 32 then false else (if b == 91 then false else is_inner b)

pub inner_byte : (o : Messages) (line : List ℕ) (b : ℕ) → is_inner b ≡ true → in_line o line b ≡ within o (b ∷ line)
inner_byte o [] b h = refl
inner_byte o (c ∷ line) b h = by (b == 10) h
  where
    by : (t : Bool) → (if t then false else true) ≡ true
        → (if t && (c == 13) then line_ends (literal_of line) o line else within o (b ∷ c ∷ line)) ≡ within o (b ∷ c ∷ line)
    by true e = absurd (false≢true e)
    by false e = refl

pub both : (a b : Bool) → (a && b) ≡ true → (a ≡ true) × (b ≡ true)
both true b e = (refl, e)
both false b e = absurd (false≢true e)

-- where no LF is there is no CRLF
pub uncut : (text : List ℕ) → list_all is_inner text ≡ true → IsUncut text
uncut text h (front, back, is) =
    let all : (list_all is_inner front && false) ≡ true = sym (list_all-append is_inner front (13 ∷ 10 ∷ back)) ∙ sym (ap (list_all is_inner) is) ∙ h in
    false≢true (both (list_all is_inner front) false all).1

pub first_of : (p : ℕ → Bool) (b : ℕ) (bs : List ℕ) → list_all p (b ∷ bs) ≡ true → p b ≡ true
first_of p b bs h = (both (p b) (list_all p bs) h).0

pub rest_of : (p : ℕ → Bool) (b : ℕ) (bs : List ℕ) → list_all p (b ∷ bs) ≡ true → list_all p bs ≡ true
rest_of p b bs h = (both (p b) (list_all p bs) h).1

pub inner_text : (o : Messages) (line text : List ℕ) → list_all is_inner text ≡ true → reads (within o line) text ≡ within o (reverse text ++ line)
inner_text o line [] h = refl
inner_text o line (b ∷ bs) h =
    ap (λ (c : Client). reads c bs) (inner_byte o line b (first_of is_inner b bs h))
    ∙ inner_text o (b ∷ line) bs (rest_of is_inner b bs h)
    ∙ ap (within o) (sym (ap (λ (l : List ℕ). l ++ line) (reverse_onto bs b []) ∙ append_assoc (reverse bs) (b ∷ []) line))

-- a line that has no LF and doesn't end in the count of a literal is told as it stands
pub whole_line : (o : Messages) (text : List ℕ) → list_all is_inner text ≡ true → literal_of (reverse text) ≡ None
    → reads (knowing o) (text ++ 13 ∷ 10 ∷ []) ≡ knowing (told text o)
whole_line o text inner none =
    reads-append (knowing o) text (13 ∷ 10 ∷ [])
    ∙ ap (λ (c : Client). reads c (13 ∷ 10 ∷ [])) (inner_text o [] text inner ∙ ap (within o) (append-nil (reverse text)))
    ∙ ap (λ (c : Client). reads c (10 ∷ [])) (inner_byte o (reverse text) 13 refl)
    ∙ ap (λ (n : Option ℕ). line_ends n o (reverse text)) none
    ∙ ap (λ (t : List ℕ). knowing (told t o)) (reverse-reverse text)

-- ---- words

pub words_cut : (w rest : List ℕ) → list_all is_word w ≡ true → words (w ++ 32 ∷ rest) ≡ w ∷ words rest
words_cut [] rest h = refl
words_cut (b ∷ bs) rest h = by (b == 32) (b == 91) (first_of is_word b bs h) (words_cut bs rest (rest_of is_word b bs h))
  where
    by : (t u : Bool) → (if t then false else (if u then false else is_inner b)) ≡ true → words (bs ++ 32 ∷ rest) ≡ bs ∷ words rest
        → (if t then [] ∷ words_from false (bs ++ 32 ∷ rest) else into_first b (words_from u (bs ++ 32 ∷ rest))) ≡ (b ∷ bs) ∷ words rest
    by true u e more = absurd (false≢true e)
    by false true e more = absurd (false≢true e)
    by false false e more = ap (into_first b) more

word_is_inner : (b : ℕ) → is_word b ≡ true → is_inner b ≡ true
word_is_inner b h = by (b == 32) (b == 91) h
  where
    by : (t u : Bool) → (if t then false else (if u then false else is_inner b)) ≡ true → is_inner b ≡ true
    by true u e = absurd (false≢true e)
    by false true e = absurd (false≢true e)
    by false false e = e

pub words_are_inner : (w : List ℕ) → list_all is_word w ≡ true → list_all is_inner w ≡ true
words_are_inner [] h = refl
words_are_inner (b ∷ bs) h = rw (word_is_inner b (first_of is_word b bs h), words_are_inner bs (rest_of is_word b bs h)) refl

-- ---- numbers

record IsNumber (n : ℕ) (ds : List ℕ) : Type 0 where
  digits : list_all is_digit ds ≡ true
  word : list_all is_word ds ≡ true
  says : value 0 ds ≡ n
  some : 0 < length ds

digit_is : (b : ℕ) → 48 ≤ b → b ≤ 57 → is_digit b ≡ true
digit_is b low high = rw (le-leb 48 b low, le-leb b 57 high) refl

digit_is_word : (b : ℕ) → 48 ≤ b → b ≤ 57 → is_word b ≡ true
digit_is_word b low high = rw (ne_eqb b 32 (λ e. omega (arith, e, low)), ne_eqb b 91 (λ e. omega (arith, e, high)), ne_eqb b 10 (λ e. omega (arith, e, low))) refl

value-append : (n : ℕ) (xs : List ℕ) (d : ℕ) → value n (xs ++ d ∷ []) ≡ value n xs * 10 + (d - 48)
value-append n [] d = refl
value-append n (x ∷ xs) d = value-append (n * 10 + (x - 48)) xs d

one_digit : (n : ℕ) → n < 10 → IsNumber n ((48 + n) ∷ [])
one_digit n h = record {
  digits = rw (digit_is (48 + n) (omega arith) (omega arith)) refl;
  word = rw (digit_is_word (48 + n) (omega arith) (omega arith)) refl;
  says = omega arith;
  some = omega arith;
}

digit_more : (n : ℕ) (ds : List ℕ) → 10 ≤ n → IsNumber (n / 10) ds → IsNumber n (ds ++ ((48 + n % 10) ∷ []))
digit_more n ds h d = record {
  digits = list_all-append is_digit ds ((48 + n % 10) ∷ []) ∙ rw (d.digits, digit_is (48 + n % 10) (omega arith) (omega arith)) refl;
  word = list_all-append is_word ds ((48 + n % 10) ∷ []) ∙ rw (d.word, digit_is_word (48 + n % 10) (omega arith) (omega arith)) refl;
  says = omega (arith, value-append 0 ds (48 + n % 10), d.says);
  some = omega (arith, length-append ds ((48 + n % 10) ∷ []));
}

is_number : (n : ℕ) → n < 10 ^ 64 → IsNumber n (decimal n)
is_number = decimal_by_steps_wide IsNumber one_digit digit_more

pub decimal_word_wide : (n : ℕ) → n < 10 ^ 64 → list_all is_word (decimal n) ≡ true
decimal_word_wide n h = (is_number n h).word

wide : (n : ℕ) → n < 2 ^ 64 → n < 10 ^ 64
wide n h = omega (arith, h)

pub decimal_word : (n : ℕ) → n < 2 ^ 64 → list_all is_word (decimal n) ≡ true
decimal_word n h = (is_number n (wide n h)).word

number_of : (n : ℕ) (ds : List ℕ) → IsNumber n ds → number ds ≡ Some n
number_of n ds d = rw (d.digits, ne_eqb (length ds) 0 (λ e. omega (arith, e, d.some))) (ap (λ (m : ℕ). Some m) d.says)

pub decimal_says : (n : ℕ) → n < 2 ^ 64 → number (decimal n) ≡ Some n
decimal_says n h = number_of n (decimal n) (is_number n (wide n h))

pub decimal_digits : (n : ℕ) → n < 2 ^ 64 → list_all is_digit (decimal n) ≡ true
decimal_digits n h = (is_number n (wide n h)).digits
