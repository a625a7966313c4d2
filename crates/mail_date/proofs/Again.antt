-- What is spelled by the grammar is read.
use Rattle.std.proofs.Common.{◌≡◌, ℕ, suc, ◌+◌, ◌-◌, ◌*◌, ◌<◌, ◌≤◌, Bool, true, false, cond, List, [], ◌∷◌, ◌++◌, length, take, drop, refl, ap, sym, subst, ◌∙◌, arith, append_assoc, inl, inr}
use Rattle.std.specs.Prelude.{Option, Some, None, ◌==◌, ◌||◌, nat_le, codes}
use Rattle.std.specs.List.{prefix_len}
use Rattle.std.proofs.lemmas.List.{take_at, drop_at}
use Rattle.std.proofs.lemmas.Bool.{le-leb}
use Rattle.std.proofs.lemmas.Bool.Decides.{Decides-eqb, nat_tests}
use Rattle.mail_date.specs.declared.stamp.Stamp.{Stamp}
use Rattle.mail_date.specs.declared.stamp.Zone.{Zone}
use Rattle.mail_date.specs.Bytes.{is_digit, is_letter, first_is}
use Rattle.mail_date.specs.Dates.{is_among, day_names, month_of, zone_of, offset, year_of_two}
use Rattle.mail_date.specs.Grammar.{Blank, Gap, Digits, Many, number_from, Year, Month, Second, ZoneText, Sign, DayName, Maybe, Date, Time, Spelled, Some1, Joined, Mark, Day, DateTime}
use Rattle.mail_date.specs.Grammar as grammar
use Rattle.mail_date.specs.Reading.{◌>>=◌, past_blank, past_gap, past_byte, past_mark, one_at, two_at, day_at, second_digit, third_digit, fourth_digit, year_at, month_at, word_at, offset_at, signed_at, named_at, zone_at, past_day_name, behind_colon, second_at, date_at, time_at, stamped, if_ended, date_time}
use Rattle.mail_date.specs.InternalBack.{four_at}
use Rattle.mail_date.proofs.Blanks.{decides_false}
use Rattle.mail_date.proofs.BlanksAgain.{Starts, Stops, is_open, starts_on, apart, open_white, blank_stops, blank_again, past_again}

-- ---- classes

abbrev is_zone : ℕ → Bool
is_zone b = is_letter b || ((b == 43) || (b == 45))

digit_open : (b : ℕ) → is_digit b ≡ true → is_open b ≡ false
digit_open b h = grind (arith, nat_tests)

pub digit_letter : (b : ℕ) → is_digit b ≡ true → is_letter b ≡ false
digit_letter b h = grind (arith, nat_tests)

letter_open : (b : ℕ) → is_letter b ≡ true → is_open b ≡ false
letter_open b h = grind (arith, nat_tests)

letter_digit : (b : ℕ) → is_letter b ≡ true → is_digit b ≡ false
letter_digit b h = grind (arith, nat_tests)

letter_sign : (b : ℕ) → is_letter b ≡ true → ((b == 43) || (b == 45)) ≡ false
letter_sign b h = grind (arith, nat_tests)

zone_open : (b : ℕ) → is_zone b ≡ true → is_open b ≡ false
zone_open b h = grind (arith, nat_tests)

zone_colon : (b : ℕ) → is_zone b ≡ true → (b == 58) ≡ false
zone_colon b h = grind (arith, nat_tests)

open_digit : (b : ℕ) → is_open b ≡ true → is_digit b ≡ false
open_digit b h = grind (arith, nat_tests)

open_letter : (b : ℕ) → is_open b ≡ true → is_letter b ≡ false
open_letter b h = grind (arith, nat_tests)

-- ---- parts

pub regroup : (text a b rest : List ℕ) → text ≡ a ++ b → text ++ rest ≡ a ++ (b ++ rest)
regroup text a b rest e = ap (λ (t : List ℕ). t ++ rest) e ∙ append_assoc a b rest

long_false : (text : List ℕ) → 0 < length text → (length text == 0) ≡ false
long_false text h = decides_false (length text == 0) (Decides-eqb (length text) 0) (λ e. omega (arith, e))

gap_starts : {text : List ℕ} → Blank text → 0 < length text → Starts is_open text
gap_starts grammar.end h = absurd (omega (arith, h))
gap_starts (grammar.white {b} {text} w i) h = open_white b w
gap_starts (grammar.comment {text} inner more e i j) h = subst (Starts is_open) (sym e) refl

gap_again : (text rest : List ℕ) → Gap text → Stops is_open rest → past_gap (text ++ rest) ≡ Some rest
gap_again text rest h s =
    ap (λ (o : Option ℕ). o >>= (λ (n : ℕ). cond (n == 0) None (Some (drop n (text ++ rest))))) (blank_again h.1 rest s)
    ∙ ap (λ (t : Bool). cond t None (Some (drop (length text) (text ++ rest)))) (long_false text h.0)
    ∙ ap (λ (l : List ℕ). Some l) (drop_at text rest (length text) refl)

mark_group : (c : ℕ) (text rest : List ℕ) → (h : Mark (c ∷ []) text) → text ++ rest ≡ h.front ++ (c ∷ (h.second.back ++ rest))
mark_group c text rest h =
    regroup text h.front h.back rest h.parts
    ∙ ap (λ (t : List ℕ). h.front ++ t) (regroup h.back h.second.front h.second.back rest h.second.parts)
    ∙ ap (λ (t : List ℕ). h.front ++ (t ++ (h.second.back ++ rest))) h.second.first

mark_again : (c : ℕ) (text rest : List ℕ) → (c == c) ≡ true → is_open c ≡ false → Mark (c ∷ []) text → Stops is_open rest → past_mark c (text ++ rest) ≡ Some rest
mark_again c text rest k o h s =
    let b = h.second.back in
    ap (past_mark c) (mark_group c text rest h)
    ∙ ap (λ (x : Option (List ℕ)). x >>= past_byte c >>= past_blank) (past_again h.first (c ∷ (b ++ rest)) o)
    ∙ ap (λ (t : Bool). cond t (Some (b ++ rest)) None >>= past_blank) k
    ∙ past_again h.second.second rest s

mark_stops : (q : ℕ → Bool) → ((b : ℕ) → is_open b ≡ true → q b ≡ false) → (c : ℕ) → q c ≡ false → (text rest : List ℕ) → Mark (c ∷ []) text → Stops q (text ++ rest)
mark_stops q f c e text rest h =
    subst (Stops q) (sym (mark_group c text rest h)) (blank_stops q f h.first (c ∷ (h.second.back ++ rest)) e)

-- ---- digits

pub one_is : (a : ℕ) (rest : List ℕ) → is_digit a ≡ true → one_at (a ∷ rest) ≡ Some (a - 48, rest)
one_is a rest h = ap (λ (t : Bool). cond t (Some (a - 48, rest)) None) h

pub two_is : (a b : ℕ) (rest : List ℕ) → is_digit a ≡ true → is_digit b ≡ true → two_at (a ∷ b ∷ rest) ≡ Some ((a - 48) * 10 + (b - 48), rest)
two_is a b rest h i =
    ap (λ (o : Option (ℕ × List ℕ)). o >>= (λ (x : ℕ × List ℕ). one_at x.1 >>= (λ (y : ℕ × List ℕ). Some (x.0 * 10 + y.0, y.1)))) (one_is a (b ∷ rest) h)
    ∙ ap (λ (o : Option (ℕ × List ℕ)). o >>= (λ (y : ℕ × List ℕ). Some ((a - 48) * 10 + y.0, y.1))) (one_is b rest i)

no_digit : (rest : List ℕ) → Stops is_digit rest → one_at rest ≡ None
no_digit [] s = refl
no_digit (x ∷ xs) s = ap (λ (t : Bool). cond t (Some (x - 48, xs)) None) s

abbrev pub told : ℕ → List ℕ → Option (ℕ × List ℕ)
told n rest = Some (n, rest)

pub said : (m n : ℕ) (rest : List ℕ) → m ≡ n → told m rest ≡ told n rest
said m n rest e = ap (λ (k : ℕ). told k rest) e

pub two_again : (n : ℕ) (text rest : List ℕ) → Digits 2 n text → two_at (text ++ rest) ≡ Some (n, rest)
two_again n [] rest d = absurd (let e = d.0 in omega (arith, e))
two_again n (a ∷ []) rest d = absurd (let e = d.0 in omega (arith, e))
two_again n (a ∷ b ∷ []) rest d = two_is a b rest d.1.0 d.1.1.0 ∙ said ((a - 48) * 10 + (b - 48)) n rest (let v = d.2 in omega (arith, v))
two_again n (a ∷ b ∷ c ∷ cs) rest d = absurd (let e = d.0 in omega (arith, e))

pub digits_start : (k n : ℕ) (text : List ℕ) → Digits (suc k) n text → Starts is_digit text
digits_start k n [] d = absurd (let e = d.0 in omega (arith, e))
digits_start k n (a ∷ more) d = d.1.0

day_one : (n : ℕ) (text rest : List ℕ) → Digits 1 n text → Stops is_digit rest → day_at (text ++ rest) ≡ Some (n, rest)
day_one n [] rest d s = absurd (let e = d.0 in omega (arith, e))
day_one n (a ∷ []) rest d s =
    ap (λ (o : Option (ℕ × List ℕ)). o >>= (λ (x : ℕ × List ℕ). Some (second_digit x (one_at x.1)))) (one_is a rest d.1.0)
    ∙ ap (λ (o : Option (ℕ × List ℕ)). Some (second_digit (a - 48, rest) o)) (no_digit rest s)
    ∙ said (a - 48) n rest (let v = d.2 in omega (arith, v))
day_one n (a ∷ b ∷ c) rest d s = absurd (let e = d.0 in omega (arith, e))

day_two : (n : ℕ) (text rest : List ℕ) → Digits 2 n text → day_at (text ++ rest) ≡ Some (n, rest)
day_two n [] rest d = absurd (let e = d.0 in omega (arith, e))
day_two n (a ∷ []) rest d = absurd (let e = d.0 in omega (arith, e))
day_two n (a ∷ b ∷ []) rest d =
    ap (λ (o : Option (ℕ × List ℕ)). o >>= (λ (x : ℕ × List ℕ). Some (second_digit x (one_at x.1)))) (one_is a (b ∷ rest) d.1.0)
    ∙ ap (λ (o : Option (ℕ × List ℕ)). Some (second_digit (a - 48, b ∷ rest) o)) (one_is b rest d.1.1.0)
    ∙ said ((a - 48) * 10 + (b - 48)) n rest (let v = d.2 in omega (arith, v))
day_two n (a ∷ b ∷ c ∷ cs) rest d = absurd (let e = d.0 in omega (arith, e))

pub day_again : (n : ℕ) (text rest : List ℕ) → Day n text → Stops is_digit rest → day_at (text ++ rest) ≡ Some (n, rest)
day_again n text rest (inl d) s = day_one n text rest d s
day_again n text rest (inr d) s = day_two n text rest d

pub day_start : (n : ℕ) (text : List ℕ) → Day n text → Starts is_digit text
day_start n text (inl d) = digits_start 0 n text d
day_start n text (inr d) = digits_start 1 n text d

-- ---- years

year_first : (a b : ℕ) (rest : List ℕ) → is_digit a ≡ true → is_digit b ≡ true → year_at (a ∷ b ∷ rest) ≡ third_digit ((a - 48) * 10 + (b - 48), rest) (one_at rest)
year_first a b rest h i = ap (λ (o : Option (ℕ × List ℕ)). o >>= (λ (x : ℕ × List ℕ). third_digit x (one_at x.1))) (two_is a b rest h i)

year_of_4 : (n : ℕ) (text rest : List ℕ) → Digits 4 n text → 1900 ≤ n → year_at (text ++ rest) ≡ Some (n, rest)
year_of_4 n [] rest d k = absurd (let e = d.0 in omega (arith, e))
year_of_4 n (a ∷ []) rest d k = absurd (let e = d.0 in omega (arith, e))
year_of_4 n (a ∷ b ∷ []) rest d k = absurd (let e = d.0 in omega (arith, e))
year_of_4 n (a ∷ b ∷ c ∷ []) rest d k = absurd (let e = d.0 in omega (arith, e))
year_of_4 n (a ∷ b ∷ c ∷ e ∷ []) rest d k =
    let two = (a - 48) * 10 + (b - 48) in
    let v = d.2 in
    let m : (two * 10 + (c - 48)) * 10 + (e - 48) ≡ n = omega (arith, v) in
    year_first a b (c ∷ e ∷ rest) d.1.0 d.1.1.0
    ∙ ap (third_digit (two, c ∷ e ∷ rest)) (one_is c (e ∷ rest) d.1.1.1.0)
    ∙ ap (fourth_digit (two * 10 + (c - 48), e ∷ rest)) (one_is e rest d.1.1.1.1.0)
    ∙ ap (λ (x : ℕ). cond (nat_le 1900 x) (Some (x, rest)) None) m
    ∙ ap (λ (t : Bool). cond t (Some (n, rest)) None) (le-leb 1900 n k)
year_of_4 n (a ∷ b ∷ c ∷ e ∷ f ∷ fs) rest d k = absurd (let e = d.0 in omega (arith, e))

year_of_3 : (n k : ℕ) (text rest : List ℕ) → Digits 3 k text → n ≡ 1900 + k → Stops is_digit rest → year_at (text ++ rest) ≡ Some (n, rest)
year_of_3 n k [] rest d h s = absurd (let e = d.0 in omega (arith, e))
year_of_3 n k (a ∷ []) rest d h s = absurd (let e = d.0 in omega (arith, e))
year_of_3 n k (a ∷ b ∷ []) rest d h s = absurd (let e = d.0 in omega (arith, e))
year_of_3 n k (a ∷ b ∷ c ∷ []) rest d h s =
    let two = (a - 48) * 10 + (b - 48) in
    let v = d.2 in
    year_first a b (c ∷ rest) d.1.0 d.1.1.0
    ∙ ap (third_digit (two, c ∷ rest)) (one_is c rest d.1.1.1.0)
    ∙ ap (fourth_digit (two * 10 + (c - 48), rest)) (no_digit rest s)
    ∙ said (1900 + (two * 10 + (c - 48))) n rest (omega (arith, v, h))
year_of_3 n k (a ∷ b ∷ c ∷ e ∷ es) rest d h s = absurd (let e = d.0 in omega (arith, e))

year_of_2 : (n k : ℕ) (text rest : List ℕ) → Digits 2 k text → n ≡ year_of_two k → Stops is_digit rest → year_at (text ++ rest) ≡ Some (n, rest)
year_of_2 n k [] rest d h s = absurd (let e = d.0 in omega (arith, e))
year_of_2 n k (a ∷ []) rest d h s = absurd (let e = d.0 in omega (arith, e))
year_of_2 n k (a ∷ b ∷ []) rest d h s =
    let two = (a - 48) * 10 + (b - 48) in
    let v = d.2 in
    let m : two ≡ k = omega (arith, v) in
    year_first a b rest d.1.0 d.1.1.0
    ∙ ap (third_digit (two, rest)) (no_digit rest s)
    ∙ ap (λ (x : ℕ). Some (year_of_two x, rest)) m
    ∙ said (year_of_two k) n rest (sym h)
year_of_2 n k (a ∷ b ∷ c ∷ cs) rest d h s = absurd (let e = d.0 in omega (arith, e))

year_again : (n : ℕ) (text rest : List ℕ) → Year n text → Stops is_digit rest → year_at (text ++ rest) ≡ Some (n, rest)
year_again n text rest (inl d) s = year_of_4 n text rest d.0 d.1
year_again n text rest (inr (inl d)) s = year_of_3 n d.0 text rest d.1 d.2 s
year_again n text rest (inr (inr d)) s = year_of_2 n d.0 text rest d.1 d.2 s

year_start : (n : ℕ) (text : List ℕ) → Year n text → Starts is_digit text
year_start n text (inl d) = digits_start 3 n text d.0
year_start n text (inr (inl d)) = digits_start 2 d.0 text d.1
year_start n text (inr (inr d)) = digits_start 1 d.0 text d.1

-- four digits, whatever they say
pub four_again : (n : ℕ) (text rest : List ℕ) → Digits 4 n text → four_at (text ++ rest) ≡ Some (n, rest)
four_again n [] rest d = absurd (let e = d.0 in omega (arith, e))
four_again n (a ∷ []) rest d = absurd (let e = d.0 in omega (arith, e))
four_again n (a ∷ b ∷ []) rest d = absurd (let e = d.0 in omega (arith, e))
four_again n (a ∷ b ∷ c ∷ []) rest d = absurd (let e = d.0 in omega (arith, e))
four_again n (a ∷ b ∷ c ∷ e ∷ []) rest d =
    let x = (a - 48) * 10 + (b - 48) in
    let y = (c - 48) * 10 + (e - 48) in
    let v = d.2 in
    ap (λ (o : Option (ℕ × List ℕ)). o >>= (λ (x : ℕ × List ℕ). two_at x.1 >>= (λ (y : ℕ × List ℕ). Some (x.0 * 100 + y.0, y.1))))
    (two_is a b (c ∷ e ∷ rest) d.1.0 d.1.1.0)
    ∙ ap (λ (o : Option (ℕ × List ℕ)). o >>= (λ (y : ℕ × List ℕ). Some (x * 100 + y.0, y.1))) (two_is c e rest d.1.1.1.0 d.1.1.1.1.0)
    ∙ said (x * 100 + y) n rest (omega (arith, v))
four_again n (a ∷ b ∷ c ∷ e ∷ f ∷ fs) rest d = absurd (let e = d.0 in omega (arith, e))

-- ---- words

none_first : (p : ℕ → Bool) (b : List ℕ) → Stops p b → prefix_len p b ≡ 0
none_first p [] h = refl
none_first p (x ∷ xs) h = ap (λ (t : Bool). cond t (1 + prefix_len p xs) 0) h

pub span_len : (p : ℕ → Bool) (a b : List ℕ) → Many p a → Stops p b → prefix_len p (a ++ b) ≡ length a
span_len p [] b h s = none_first p b s
span_len p (x ∷ xs) b h s =
    let rest = span_len p xs b h.1 s in
    ap (λ (t : Bool). cond t (1 + prefix_len p (xs ++ b)) 0) h.0 ∙ omega (arith, rest)

word_again : (a b : List ℕ) → Many is_letter a → Stops is_letter b → word_at (a ++ b) ≡ (a, b)
word_again a b h s =
    ap (λ (n : ℕ). (take n (a ++ b), drop n (a ++ b))) (span_len is_letter a b h s)
    ∙ ap (λ (l : List ℕ). (l, drop (length a) (a ++ b))) (take_at a b (length a) refl)
    ∙ ap (λ (l : List ℕ). (a, l)) (drop_at a b (length a) refl)

pub month_again : (n : ℕ) (text rest : List ℕ) → Month n text → Stops is_letter rest → month_at (text ++ rest) ≡ Some (n, rest)
month_again n text rest h s =
    ap (λ (w : List ℕ × List ℕ). month_of w.0 >>= (λ (n : ℕ). Some (n, w.1))) (word_again text rest h.0 s)
    ∙ ap (λ (o : Option ℕ). o >>= (λ (n : ℕ). Some (n, rest))) h.1

pub month_start : (n : ℕ) (text : List ℕ) → Month n text → Starts is_letter text
month_start n [] h = absurd (let e = h.1 in cc)
month_start n (x ∷ xs) h = h.0.0

some_start : (p : ℕ → Bool) (text : List ℕ) → Some1 p text → Starts p text
some_start p [] h = absurd (let e = h.0 in omega (arith, e))
some_start p (x ∷ xs) h = h.1.0

abbrev Named : List ℕ → Type 0
Named = Maybe (Joined DayName (Mark (codes ",")))

name_again : (text rest : List ℕ) → Named text → Starts is_digit rest → past_day_name (text ++ rest) ≡ Some rest
name_again text rest (inl e) s =
    ap (λ (t : List ℕ). past_day_name (t ++ rest)) e
    ∙ ap (λ (w : List ℕ × List ℕ). cond (length w.0 == 0) (Some rest) (cond (is_among day_names w.0) (past_mark 44 w.1) None))
    (word_again [] rest tt (apart is_digit is_letter digit_letter rest s))
name_again text rest (inr j) s =
    let a = j.front in
    let b = j.back ++ rest in
    ap past_day_name (regroup text j.front j.back rest j.parts)
    ∙ ap (λ (w : List ℕ × List ℕ). cond (length w.0 == 0) (Some (a ++ b)) (cond (is_among day_names w.0) (past_mark 44 w.1) None))
    (word_again a b j.first.0.1 (mark_stops is_letter open_letter 44 refl j.back rest j.second))
    ∙ ap (λ (t : Bool). cond t (Some (a ++ b)) (cond (is_among day_names a) (past_mark 44 b) None)) (long_false a j.first.0.0)
    ∙ ap (λ (t : Bool). cond t (past_mark 44 b) None) j.first.1
    ∙ mark_again 44 j.back rest refl refl j.second (apart is_digit is_open digit_open rest s)

name_stops : (text rest : List ℕ) → Named text → Starts is_digit rest → Stops is_open (text ++ rest)
name_stops text rest (inl e) s = subst (λ (t : List ℕ). Stops is_open (t ++ rest)) (sym e) (apart is_digit is_open digit_open rest s)
name_stops text rest (inr j) s =
    subst (Stops is_open) (sym (regroup text j.front j.back rest j.parts))
    (apart is_letter is_open letter_open (j.front ++ (j.back ++ rest)) (starts_on is_letter j.front (j.back ++ rest) (some_start is_letter j.front j.first.0)))

-- ---- zones

abbrev pub OffsetText : ℕ → ℕ → List ℕ → Type 0
OffsetText h m = Joined (Digits 2 h) (Digits 2 m)

pub offset_again : (w : Bool) (h m : ℕ) (text rest : List ℕ) → OffsetText h m text → offset_at w (text ++ rest) ≡ Some (offset w h m, rest)
offset_again w h m text rest j =
    ap (offset_at w) (regroup text j.front j.back rest j.parts)
    ∙ ap (λ (o : Option (ℕ × List ℕ)). o >>= (λ (x : ℕ × List ℕ). two_at x.1 >>= (λ (y : ℕ × List ℕ). Some (offset w x.0 y.0, y.1)))) (two_again h j.front (j.back ++ rest) j.first)
    ∙ ap (λ (o : Option (ℕ × List ℕ)). o >>= (λ (y : ℕ × List ℕ). Some (offset w h y.0, y.1))) (two_again m j.back rest j.second)

signed_again : (w : Bool) (h m : ℕ) (text rest : List ℕ) → Joined (Sign w) (OffsetText h m) text → zone_at (text ++ rest) ≡ Some (offset w h m, rest)
signed_again true h m text rest j =
    ap zone_at (regroup text j.front j.back rest j.parts ∙ ap (λ (t : List ℕ). t ++ (j.back ++ rest)) j.first)
    ∙ offset_again true h m j.back rest j.second
signed_again false h m text rest j =
    ap zone_at (regroup text j.front j.back rest j.parts ∙ ap (λ (t : List ℕ). t ++ (j.back ++ rest)) j.first)
    ∙ offset_again false h m j.back rest j.second

unsigned : (text rest : List ℕ) → Starts is_letter text → (first_is 43 (text ++ rest) || first_is 45 (text ++ rest)) ≡ false
unsigned [] rest h = absurd h
unsigned (x ∷ xs) rest h = letter_sign x h

zone_again : (z : Zone) (text rest : List ℕ) → ZoneText z text → Stops is_letter rest → zone_at (text ++ rest) ≡ Some (z, rest)
zone_again z text rest (inl j) s = signed_again z.is_west z.hours z.minutes text rest j
zone_again z text rest (inr d) s =
    ap (λ (t : Bool). cond t (signed_at (text ++ rest)) (named_at (text ++ rest))) (unsigned text rest (some_start is_letter text d.0))
    ∙ ap (λ (w : List ℕ × List ℕ). zone_of w.0 >>= (λ (zone : Zone). Some (zone, w.1))) (word_again text rest d.0.1 s)
    ∙ ap (λ (o : Option Zone). o >>= (λ (zone : Zone). Some (zone, rest))) d.1

letter_zone : (b : ℕ) → is_letter b ≡ true → is_zone b ≡ true
letter_zone b h = ap (λ (t : Bool). t || ((b == 43) || (b == 45))) h

wider : (text : List ℕ) → Starts is_letter text → Starts is_zone text
wider [] h = h
wider (x ∷ xs) h = letter_zone x h

sign_start : (w : Bool) (a b text : List ℕ) → text ≡ a ++ b → Sign w a → Starts is_zone text
sign_start true a b text e s = subst (Starts is_zone) (sym (e ∙ ap (λ (t : List ℕ). t ++ b) s)) refl
sign_start false a b text e s = subst (Starts is_zone) (sym (e ∙ ap (λ (t : List ℕ). t ++ b) s)) refl

zone_start : (z : Zone) (text : List ℕ) → ZoneText z text → Starts is_zone text
zone_start z text (inl j) = sign_start z.is_west j.front j.back text j.parts j.first
zone_start z text (inr d) = wider text (some_start is_letter text d.0)

-- ---- times

no_colon : (rest : List ℕ) → Starts is_zone rest → first_is 58 rest ≡ false
no_colon [] s = absurd s
no_colon (x ∷ xs) s = zone_colon x s

second_again : (n : ℕ) (text rest : List ℕ) → Second n text → Starts is_zone rest → second_at (text ++ rest) ≡ Some (n, rest)
second_again n text rest (inl d) s =
    ap (λ (o : Option (List ℕ)). o >>= (λ (start : List ℕ). cond (first_is 58 start) (behind_colon (drop 1 start)) (Some (0, start)))) (past_again d.1 rest (apart is_zone is_open zone_open rest s))
    ∙ ap (λ (t : Bool). cond t (behind_colon (drop 1 rest)) (Some (0, rest))) (no_colon rest s)
    ∙ said 0 n rest (sym d.0)
second_again n text rest (inr j) s =
    let mark = j.first in
    let b = mark.second.back in
    let digits = j.second.front in
    let blank = j.second.back in
    let tail = digits ++ (blank ++ rest) in
    let starts = starts_on is_digit digits (blank ++ rest) (digits_start 1 n digits j.second.first) in
    ap second_at (regroup text j.front j.back rest j.parts ∙ mark_group 58 j.front (j.back ++ rest) mark ∙ ap (λ (t : List ℕ). mark.front ++ (58 ∷ (b ++ t))) (regroup j.back digits blank rest j.second.parts))
    ∙ ap (λ (o : Option (List ℕ)). o >>= (λ (start : List ℕ). cond (first_is 58 start) (behind_colon (drop 1 start)) (Some (0, start)))) (past_again mark.first (58 ∷ (b ++ tail)) refl)
    ∙ ap (λ (o : Option (List ℕ)). o >>= (λ (d : List ℕ). two_at d >>= (λ (x : ℕ × List ℕ). past_blank x.1 >>= (λ (r : List ℕ). Some (x.0, r))))) (past_again mark.second.second tail (apart is_digit is_open digit_open tail starts))
    ∙ ap (λ (o : Option (ℕ × List ℕ)). o >>= (λ (x : ℕ × List ℕ). past_blank x.1 >>= (λ (r : List ℕ). Some (x.0, r)))) (two_again n digits (blank ++ rest) j.second.first)
    ∙ ap (λ (o : Option (List ℕ)). o >>= (λ (r : List ℕ). Some (n, r))) (past_again j.second.second rest (apart is_zone is_open zone_open rest s))

abbrev Parts : Type 0
Parts = (ℕ × ℕ × ℕ) × List ℕ

time_again : (h m x : ℕ) (text rest : List ℕ) → Time h m x text → Starts is_zone rest → time_at (text ++ rest) ≡ Some ((h, m, x), rest)
time_again h m x text rest j s =
    let k = j.second in
    let l = k.second in
    let c = l.back ++ rest in
    let b = l.front ++ c in
    let a = k.front ++ b in
    let starts = starts_on is_digit l.front c (digits_start 1 m l.front l.first) in
    ap time_at (regroup text j.front j.back rest j.parts ∙ ap (λ (t : List ℕ). j.front ++ t) (regroup j.back k.front k.back rest k.parts ∙ ap (λ (t : List ℕ). k.front ++ t) (regroup k.back l.front l.back rest l.parts)))
    ∙ ap (λ (o : Option (ℕ × List ℕ)). o >>= (λ (h : ℕ × List ℕ). past_mark 58 h.1 >>= (λ (a : List ℕ). two_at a >>= (λ (m : ℕ × List ℕ). second_at m.1 >>= (λ (s : ℕ × List ℕ). Some ((h.0, m.0, s.0), s.1)))))) (two_again h j.front a j.first)
    ∙ ap (λ (o : Option (List ℕ)). o >>= (λ (a : List ℕ). two_at a >>= (λ (m : ℕ × List ℕ). second_at m.1 >>= (λ (s : ℕ × List ℕ). Some ((h, m.0, s.0), s.1))))) (mark_again 58 k.front b refl refl k.first (apart is_digit is_open digit_open b starts))
    ∙ ap (λ (o : Option (ℕ × List ℕ)). o >>= (λ (m : ℕ × List ℕ). second_at m.1 >>= (λ (s : ℕ × List ℕ). Some ((h, m.0, s.0), s.1)))) (two_again m l.front c l.first)
    ∙ ap (λ (o : Option (ℕ × List ℕ)). o >>= (λ (s : ℕ × List ℕ). Some ((h, m, s.0), s.1))) (second_again x l.back rest l.second s)

time_start : (h m x : ℕ) (text : List ℕ) → Time h m x text → Starts is_digit text
time_start h m x text j = subst (Starts is_digit) (sym j.parts) (starts_on is_digit j.front j.back (digits_start 1 h j.front j.first))

-- ---- dates

date_parts : (y m d : ℕ) (text rest : List ℕ) → Date y m d text → Starts is_digit rest → date_at (text ++ rest) ≡ Some ((y, m, d), rest)
date_parts y m d text rest j s =
    let k = j.second in
    let l = k.second in
    let n = l.second in
    let q = n.second in
    let e5 = q.back ++ rest in
    let e4 = q.front ++ e5 in
    let e3 = n.front ++ e4 in
    let e2 = l.front ++ e3 in
    let e1 = k.front ++ e2 in
    let month = starts_on is_letter l.front e3 (month_start m l.front l.first) in
    let year = starts_on is_digit q.front e5 (year_start y q.front q.first) in
    let gap = starts_on is_open q.back rest (gap_starts q.second.1 q.second.0) in
    ap date_at (regroup text j.front j.back rest j.parts ∙ ap (λ (t : List ℕ). j.front ++ t) (regroup j.back k.front k.back rest k.parts ∙ ap (λ (t : List ℕ). k.front ++ t) (regroup k.back l.front l.back rest l.parts ∙ ap (λ (t : List ℕ). l.front ++ t) (regroup l.back n.front n.back rest n.parts ∙ ap (λ (t : List ℕ). n.front ++ t) (regroup n.back q.front q.back rest q.parts)))))
    ∙ ap (λ (o : Option (ℕ × List ℕ)). o >>= (λ (d : ℕ × List ℕ). past_blank d.1 >>= (λ (a : List ℕ). month_at a >>= (λ (m : ℕ × List ℕ). past_blank m.1 >>= (λ (b : List ℕ). year_at b >>= (λ (y : ℕ × List ℕ). past_gap y.1 >>= (λ (r : List ℕ). Some ((y.0, m.0, d.0), r)))))))) (day_again d j.front e1 j.first (blank_stops is_digit open_digit k.first e2 (apart is_letter is_digit letter_digit e2 month)))
    ∙ ap (λ (o : Option (List ℕ)). o >>= (λ (a : List ℕ). month_at a >>= (λ (m : ℕ × List ℕ). past_blank m.1 >>= (λ (b : List ℕ). year_at b >>= (λ (y : ℕ × List ℕ). past_gap y.1 >>= (λ (r : List ℕ). Some ((y.0, m.0, d), r))))))) (past_again k.first e2 (apart is_letter is_open letter_open e2 month))
    ∙ ap (λ (o : Option (ℕ × List ℕ)). o >>= (λ (m : ℕ × List ℕ). past_blank m.1 >>= (λ (b : List ℕ). year_at b >>= (λ (y : ℕ × List ℕ). past_gap y.1 >>= (λ (r : List ℕ). Some ((y.0, m.0, d), r)))))) (month_again m l.front e3 l.first (blank_stops is_letter open_letter n.first e4 (apart is_digit is_letter digit_letter e4 year)))
    ∙ ap (λ (o : Option (List ℕ)). o >>= (λ (b : List ℕ). year_at b >>= (λ (y : ℕ × List ℕ). past_gap y.1 >>= (λ (r : List ℕ). Some ((y.0, m, d), r))))) (past_again n.first e4 (apart is_digit is_open digit_open e4 year))
    ∙ ap (λ (o : Option (ℕ × List ℕ)). o >>= (λ (y : ℕ × List ℕ). past_gap y.1 >>= (λ (r : List ℕ). Some ((y.0, m, d), r)))) (year_again y q.front e5 q.first (apart is_open is_digit open_digit e5 gap))
    ∙ ap (λ (o : Option (List ℕ)). o >>= (λ (r : List ℕ). Some ((y, m, d), r))) (gap_again q.back rest q.second (apart is_digit is_open digit_open rest s))

date_start : (y m d : ℕ) (text : List ℕ) → Date y m d text → Starts is_digit text
date_start y m d text j = subst (Starts is_digit) (sym j.parts) (starts_on is_digit j.front j.back (day_start d j.front j.first))

-- ---- the whole

pub append_none : (xs : List ℕ) → xs ++ [] ≡ xs
append_none [] = refl
append_none (x ∷ xs) = ap (λ (l : List ℕ). x ∷ l) (append_none xs)

whole_is : (text : List ℕ) → date_time text ≡ (past_blank text >>= (λ (a : List ℕ). past_day_name a >>= (λ (b : List ℕ). date_at b >>= (λ (d : Parts). time_at d.1 >>= (λ (t : Parts). zone_at t.1 >>= (λ (z : Zone × List ℕ). past_blank z.1 >>= (λ (r : List ℕ). if_ended r (stamped d.0 t.0 z.0))))))))
unfolding date_time
whole_is text = refl

pub date_again : (text : List ℕ) (s : Stamp) → DateTime s text → date_time text ≡ Some s
date_again text s h =
    let j = h.0 in
    let k = j.second in
    let l = k.second in
    let n = l.second in
    let q = n.second in
    let last = q.back in
    let e4 = q.front ++ last in
    let e3 = n.front ++ e4 in
    let e2 = l.front ++ e3 in
    let e1 = k.front ++ e2 in
    let d : ℕ × ℕ × ℕ = (s.year, s.month, s.day) in
    let t : ℕ × ℕ × ℕ = (s.hour, s.minute, s.second) in
    let zone = starts_on is_zone q.front last (zone_start s.zone q.front q.first) in
    let time = starts_on is_digit n.front e4 (time_start s.hour s.minute s.second n.front n.first) in
    let date = starts_on is_digit l.front e3 (date_start s.year s.month s.day l.front l.first) in
    let parts : text ≡ j.front ++ e1 = j.parts ∙ ap (λ (x : List ℕ). j.front ++ x) (k.parts ∙ ap (λ (x : List ℕ). k.front ++ x) (l.parts ∙ ap (λ (x : List ℕ). l.front ++ x) (n.parts ∙ ap (λ (x : List ℕ). n.front ++ x) q.parts))) in
    let tail : Stops is_letter last = subst (Stops is_letter) (append_none last) (blank_stops is_letter open_letter q.second [] tt) in
    let end : past_blank last ≡ Some [] = ap past_blank (sym (append_none last)) ∙ past_again q.second [] tt in
    ap date_time parts
    ∙ whole_is (j.front ++ e1)
    ∙ ap (λ (o : Option (List ℕ)). o >>= (λ (a : List ℕ). past_day_name a >>= (λ (b : List ℕ). date_at b >>= (λ (d : Parts). time_at d.1 >>= (λ (t : Parts). zone_at t.1 >>= (λ (z : Zone × List ℕ). past_blank z.1 >>= (λ (r : List ℕ). if_ended r (stamped d.0 t.0 z.0)))))))) (past_again j.first e1 (name_stops k.front e2 k.first date))
    ∙ ap (λ (o : Option (List ℕ)). o >>= (λ (b : List ℕ). date_at b >>= (λ (d : Parts). time_at d.1 >>= (λ (t : Parts). zone_at t.1 >>= (λ (z : Zone × List ℕ). past_blank z.1 >>= (λ (r : List ℕ). if_ended r (stamped d.0 t.0 z.0))))))) (name_again k.front e2 k.first date)
    ∙ ap (λ (o : Option Parts). o >>= (λ (d : Parts). time_at d.1 >>= (λ (t : Parts). zone_at t.1 >>= (λ (z : Zone × List ℕ). past_blank z.1 >>= (λ (r : List ℕ). if_ended r (stamped d.0 t.0 z.0)))))) (date_parts s.year s.month s.day l.front e3 l.first time)
    ∙ ap (λ (o : Option Parts). o >>= (λ (t : Parts). zone_at t.1 >>= (λ (z : Zone × List ℕ). past_blank z.1 >>= (λ (r : List ℕ). if_ended r (stamped d t.0 z.0))))) (time_again s.hour s.minute s.second n.front e4 n.first zone)
    ∙ ap (λ (o : Option (Zone × List ℕ)). o >>= (λ (z : Zone × List ℕ). past_blank z.1 >>= (λ (r : List ℕ). if_ended r (stamped d t z.0)))) (zone_again s.zone q.front last q.first tail)
    ∙ ap (λ (o : Option (List ℕ)). o >>= (λ (r : List ℕ). if_ended r (stamped d t s.zone))) end
    ∙ ap (λ (b : Bool). cond b (Some s) None) h.1
