-- What is read is spelled by the grammar.
use Rattle.std.proofs.Common.{◌≡◌, ℕ, suc, ◌+◌, ◌-◌, ◌*◌, ◌<◌, ◌≤◌, Bool, true, false, cond, List, [], ◌∷◌, ◌++◌, length, take, drop, refl, ap, sym, subst, ◌∙◌, arith, length-take, append_assoc, inl, inr}
use Rattle.std.specs.Prelude.{Option, Some, None, ◌==◌, ◌||◌, nat_le, codes}
use Rattle.std.specs.List.{prefix_len}
use Rattle.std.proofs.lemmas.List.{take-append-drop}
use Rattle.std.proofs.lemmas.Bool.{leb-true}
use Rattle.std.proofs.lemmas.Bool.Decides.{Decides-eqb, not_from_Decides}
use Rattle.mail_date.specs.declared.stamp.Stamp.{Stamp}
use Rattle.mail_date.specs.declared.stamp.Zone.{Zone}
use Rattle.mail_date.specs.Bytes.{is_digit, is_letter, first_is}
use Rattle.mail_date.specs.Dates.{is_among, day_names, month_of, zone_of, offset, year_of_two, is_date}
use Rattle.mail_date.specs.Grammar.{Blank, Gap, Digits, Many, Year, Month, Second, ZoneText, Sign, DayName, Maybe, Date, Time, Spelled, Joined, Mark, Day, DateTime}
use Rattle.mail_date.specs.Reading.{◌>>=◌, outside, blank_len, past_blank, past_gap, past_byte, past_mark, one_at, two_at, day_at, second_digit, third_digit, fourth_digit, year_at, month_at, word_at, offset_at, signed_at, named_at, zone_at, past_day_name, behind_colon, second_at, date_at, time_at, stamped, checked, if_ended, date_time}
use Rattle.mail_date.specs.InternalBack.{four_at}
use Rattle.mail_date.proofs.Blanks.{bind_some, guard_some, either, not_zero, blank_found}

-- a part at the front
pub record Front (P : List ℕ → Type 0) (bytes rest : List ℕ) : Type 0 where
  pub text : List ℕ
  pub parts : bytes ≡ text ++ rest
  pub is : P text

taken : (P : List ℕ → Type 0) (n : ℕ) (bytes : List ℕ) → P (take n bytes) → Front P bytes (drop n bytes)
taken P n bytes h = record { text = take n bytes; parts = sym (take-append-drop n bytes); is = h }

moved : (P : List ℕ → Type 0) (bytes rest other : List ℕ) → rest ≡ other → Front P bytes rest → Front P bytes other
moved P bytes rest other e f = subst (Front P bytes) e f

-- two parts are one
pub joined : (P Q : List ℕ → Type 0) (a b c : List ℕ) → Front P a b → Front Q b c → Front (Joined P Q) a c
joined P Q a b c f g =
    record {
      text = f.text ++ g.text;
      parts = f.parts ∙ ap (λ (l : List ℕ). f.text ++ l) g.parts ∙ sym (append_assoc f.text g.text c);
      is = record { front = f.text; back = g.text; parts = refl; first = f.is; second = g.is };
    }

-- ---- blanks and marks

pub some_is : {A : Type 0} (x y : A) → Some x ≡ Some y → x ≡ y
some_is x y e = cc

blank_sound : (bytes r : List ℕ) → past_blank bytes ≡ Some r → Front Blank bytes r
blank_sound bytes r e =
    let b = bind_some (blank_len outside bytes) (λ (n : ℕ). Some (drop n bytes)) r e in
    moved Blank bytes (drop b.0 bytes) r (some_is (drop b.0 bytes) r b.2) (taken Blank b.0 bytes (blank_found bytes false 0 b.0 b.1))

pub first_cons : (c : ℕ) (l : List ℕ) → first_is c l ≡ true → l ≡ c ∷ drop 1 l
first_cons c [] e = absurd cc
first_cons c (x ∷ xs) e = ap (λ (y : ℕ). y ∷ xs) ((Decides-eqb x c).0 e)

pub byte_sound : (c : ℕ) (bytes r : List ℕ) → past_byte c bytes ≡ Some r → Front (λ t. t ≡ c ∷ []) bytes r
byte_sound c bytes r e =
    let g = guard_some (first_is c bytes) (drop 1 bytes) r e in
    record { text = c ∷ []; parts = first_cons c bytes g.0 ∙ ap (λ (l : List ℕ). c ∷ l) g.1; is = refl }

mark_sound : (c : ℕ) (bytes r : List ℕ) → past_mark c bytes ≡ Some r → Front (Mark (c ∷ [])) bytes r
mark_sound c bytes r e =
    let two = bind_some (past_blank bytes >>= past_byte c) past_blank r e in
    let one = bind_some (past_blank bytes) (past_byte c) two.0 two.1 in
    joined Blank (Joined (λ t. t ≡ c ∷ []) Blank) bytes one.0 r (blank_sound bytes one.0 one.1)
    (joined (λ t. t ≡ c ∷ []) Blank one.0 two.0 r (byte_sound c one.0 two.0 one.2) (blank_sound two.0 r two.2))

-- ---- digits

pub record One (bytes : List ℕ) (y : ℕ × List ℕ) : Type 0 where
  byte : ℕ
  parts : bytes ≡ byte ∷ y.1
  digit : is_digit byte ≡ true
  value : y.0 ≡ byte - 48

pub one_sound : (bytes : List ℕ) (y : ℕ × List ℕ) → one_at bytes ≡ Some y → One bytes y
one_sound [] y e = absurd cc
one_sound (a ∷ rest) y e =
    let g = guard_some (is_digit a) (a - 48, rest) y e in
    record { byte = a; parts = ap (λ (p : ℕ × List ℕ). a ∷ p.1) g.1; digit = g.0; value = sym (ap (λ (p : ℕ × List ℕ). p.0) g.1) }

pub one_front : (bytes : List ℕ) (y : ℕ × List ℕ) → One bytes y → Front (Digits 1 y.0) bytes y.1
one_front bytes y o =
    let v = o.value in
    record { text = o.byte ∷ []; parts = o.parts; is = (refl, (o.digit, tt), omega (arith, v)) }

two_front : (bytes : List ℕ) (x y z : ℕ × List ℕ) → One bytes x → One x.1 y → z.0 ≡ x.0 * 10 + y.0 → y.1 ≡ z.1 → Front (Digits 2 z.0) bytes z.1
two_front bytes x y z o p e f =
    let v = o.value in
    let w = p.value in
    record {
      text = o.byte ∷ p.byte ∷ [];
      parts = o.parts ∙ ap (λ (l : List ℕ). o.byte ∷ l) p.parts ∙ ap (λ (l : List ℕ). o.byte ∷ p.byte ∷ l) f;
      is = (refl, (o.digit, (p.digit, tt)), omega (arith, v, w, e));
    }

pub two_sound : (bytes : List ℕ) (z : ℕ × List ℕ) → two_at bytes ≡ Some z → Front (Digits 2 z.0) bytes z.1
two_sound bytes z e =
    let a = bind_some (one_at bytes) (λ (a : ℕ × List ℕ). one_at a.1 >>= (λ (b : ℕ × List ℕ). Some (a.0 * 10 + b.0, b.1))) z e in
    let b = bind_some (one_at a.0.1) (λ (b : ℕ × List ℕ). Some (a.0.0 * 10 + b.0, b.1)) z a.2 in
    let s : (a.0.0 * 10 + b.0.0, b.0.1) ≡ z = some_is (a.0.0 * 10 + b.0.0, b.0.1) z b.2 in
    two_front bytes a.0 b.0 z (one_sound bytes a.0 a.1) (one_sound a.0.1 b.0 b.1) (sym (ap (λ (p : ℕ × List ℕ). p.0) s)) (ap (λ (p : ℕ × List ℕ). p.1) s)

pair_is : {A : Type 0} (x y : A × List ℕ) → x ≡ y → x.1 ≡ y.1
pair_is x y e = ap (λ p. p.1) e

record Ones (bytes : List ℕ) (z : ℕ × List ℕ) : Type 0 where
  x : ℕ × List ℕ
  y : ℕ × List ℕ
  first : One bytes x
  second : One x.1 y
  value : z.0 ≡ x.0 * 10 + y.0
  rest : y.1 ≡ z.1

two_ones : (bytes : List ℕ) (z : ℕ × List ℕ) → two_at bytes ≡ Some z → Ones bytes z
two_ones bytes z e =
    let a = bind_some (one_at bytes) (λ (a : ℕ × List ℕ). one_at a.1 >>= (λ (b : ℕ × List ℕ). Some (a.0 * 10 + b.0, b.1))) z e in
    let b = bind_some (one_at a.0.1) (λ (b : ℕ × List ℕ). Some (a.0.0 * 10 + b.0, b.1)) z a.2 in
    let s : (a.0.0 * 10 + b.0.0, b.0.1) ≡ z = some_is (a.0.0 * 10 + b.0.0, b.0.1) z b.2 in
    record {
      x = a.0;
      y = b.0;
      first = one_sound bytes a.0 a.1;
      second = one_sound a.0.1 b.0 b.1;
      value = sym (ap (λ (p : ℕ × List ℕ). p.0) s);
      rest = ap (λ (p : ℕ × List ℕ). p.1) s;
    }

from_ones : (bytes : List ℕ) (z : ℕ × List ℕ) → Ones bytes z → Front (Digits 2 z.0) bytes z.1
from_ones bytes z o = two_front bytes o.x o.y z o.first o.second o.value o.rest

three_front : (bytes : List ℕ) (x y w : ℕ × List ℕ) (n : ℕ) → One bytes x → One x.1 y → One y.1 w → n ≡ (x.0 * 10 + y.0) * 10 + w.0 → Front (Digits 3 n) bytes w.1
three_front bytes x y w n o p q e =
    let a = o.value in
    let b = p.value in
    let c = q.value in
    record {
      text = o.byte ∷ p.byte ∷ q.byte ∷ [];
      parts = o.parts ∙ ap (λ (l : List ℕ). o.byte ∷ l) p.parts ∙ ap (λ (l : List ℕ). o.byte ∷ p.byte ∷ l) q.parts;
      is = (refl, (o.digit, (p.digit, (q.digit, tt))), omega (arith, a, b, c, e));
    }

four_front : (bytes : List ℕ) (x y w v : ℕ × List ℕ) (n : ℕ) → One bytes x → One x.1 y → One y.1 w → One w.1 v
    → n ≡ ((x.0 * 10 + y.0) * 10 + w.0) * 10 + v.0 → Front (Digits 4 n) bytes v.1
four_front bytes x y w v n o p q r e =
    let a = o.value in
    let b = p.value in
    let c = q.value in
    let d = r.value in
    record {
      text = o.byte ∷ p.byte ∷ q.byte ∷ r.byte ∷ [];
      parts = o.parts ∙ ap (λ (l : List ℕ). o.byte ∷ l) p.parts ∙ ap (λ (l : List ℕ). o.byte ∷ p.byte ∷ l) q.parts ∙ ap (λ (l : List ℕ). o.byte ∷ p.byte ∷ q.byte ∷ l) r.parts;
      is = (refl, (o.digit, (p.digit, (q.digit, (r.digit, tt)))), omega (arith, a, b, c, d, e));
    }

-- the same text under another rule
pub ruled : (P Q : List ℕ → Type 0) (bytes a b : List ℕ) → a ≡ b → ((text : List ℕ) → P text → Q text) → Front P bytes a → Front Q bytes b
ruled P Q bytes a b e f g = record { text = g.text; parts = g.parts ∙ ap (λ (l : List ℕ). g.text ++ l) e; is = f g.text g.is }

day_two : (bytes : List ℕ) (a z : ℕ × List ℕ) → One bytes a → (o : Option (ℕ × List ℕ)) → one_at a.1 ≡ o → second_digit a o ≡ z → Front (Day z.0) bytes z.1
day_two bytes a z h None f e =
    subst (λ (p : ℕ × List ℕ). Front (Day p.0) bytes p.1) e
    (ruled (Digits 1 a.0) (Day a.0) bytes a.1 a.1 refl (λ text d. inl d) (one_front bytes a h))
day_two bytes a z h (Some b) f e =
    subst (λ (p : ℕ × List ℕ). Front (Day p.0) bytes p.1) e
    (ruled (Digits 2 (a.0 * 10 + b.0)) (Day (a.0 * 10 + b.0)) bytes b.1 b.1 refl (λ text d. inr d)
    (two_front bytes a b (a.0 * 10 + b.0, b.1) h (one_sound a.1 b f) refl refl))

pub day_sound : (bytes : List ℕ) (z : ℕ × List ℕ) → day_at bytes ≡ Some z → Front (Day z.0) bytes z.1
day_sound bytes z e =
    let a = bind_some (one_at bytes) (λ (a : ℕ × List ℕ). Some (second_digit a (one_at a.1))) z e in
    day_two bytes a.0 z (one_sound bytes a.0 a.1) (one_at a.0.1) refl (some_is (second_digit a.0 (one_at a.0.1)) z a.2)

-- ---- years

year_four : (bytes : List ℕ) (a b z : ℕ × List ℕ) → Ones bytes a → One a.1 b → (o : Option (ℕ × List ℕ)) → one_at b.1 ≡ o
    → fourth_digit (a.0 * 10 + b.0, b.1) o ≡ Some z → Front (Year z.0) bytes z.1
year_four bytes a b z h i None f e =
    let j : One h.y.1 b = subst (λ (l : List ℕ). One l b) (sym h.rest) i in
    let v = h.value in
    let n = a.0 * 10 + b.0 in
    let s : (1900 + n, b.1) ≡ z = some_is (1900 + n, b.1) z e in
    subst (λ (p : ℕ × List ℕ). Front (Year p.0) bytes p.1) s
    (ruled (Digits 3 n) (Year (1900 + n)) bytes b.1 b.1 refl (λ text d. inr (inl (n, d, refl)))
    (three_front bytes h.x h.y b n h.first h.second j (omega (arith, v))))
year_four bytes a b z h i (Some c) f e =
    let j : One h.y.1 b = subst (λ (l : List ℕ). One l b) (sym h.rest) i in
    let v = h.value in
    let n = (a.0 * 10 + b.0) * 10 + c.0 in
    let g = guard_some (nat_le 1900 n) (n, c.1) z e in
    let k : 1900 ≤ n = leb-true 1900 n g.0 in
    subst (λ (p : ℕ × List ℕ). Front (Year p.0) bytes p.1) g.1
    (ruled (Digits 4 n) (Year n) bytes c.1 c.1 refl (λ text d. inl (d, k))
    (four_front bytes h.x h.y b c n h.first h.second j (one_sound b.1 c f) (omega (arith, v))))

year_three : (bytes : List ℕ) (a z : ℕ × List ℕ) → Ones bytes a → (o : Option (ℕ × List ℕ)) → one_at a.1 ≡ o
    → third_digit a o ≡ Some z → Front (Year z.0) bytes z.1
year_three bytes a z h None f e =
    let s : (year_of_two a.0, a.1) ≡ z = some_is (year_of_two a.0, a.1) z e in
    subst (λ (p : ℕ × List ℕ). Front (Year p.0) bytes p.1) s
    (ruled (Digits 2 a.0) (Year (year_of_two a.0)) bytes a.1 a.1 refl (λ text d. inr (inr (a.0, d, refl))) (from_ones bytes a h))
year_three bytes a z h (Some b) f e = year_four bytes a b z h (one_sound a.1 b f) (one_at b.1) refl e

year_sound : (bytes : List ℕ) (z : ℕ × List ℕ) → year_at bytes ≡ Some z → Front (Year z.0) bytes z.1
year_sound bytes z e =
    let a = bind_some (two_at bytes) (λ (a : ℕ × List ℕ). third_digit a (one_at a.1)) z e in
    year_three bytes a.0 z (two_ones bytes a.0 a.1) (one_at a.0.1) refl a.2

-- four digits, whatever they say
pub four_sound : (bytes : List ℕ) (z : ℕ × List ℕ) → four_at bytes ≡ Some z → Front (Digits 4 z.0) bytes z.1
four_sound bytes z e =
    let a = bind_some (two_at bytes) (λ (a : ℕ × List ℕ). two_at a.1 >>= (λ (b : ℕ × List ℕ). Some (a.0 * 100 + b.0, b.1))) z e in
    let b = bind_some (two_at a.0.1) (λ (b : ℕ × List ℕ). Some (a.0.0 * 100 + b.0, b.1)) z a.2 in
    let n = a.0.0 * 100 + b.0.0 in
    let h = two_ones bytes a.0 a.1 in
    let i = two_ones a.0.1 b.0 b.1 in
    let first : One h.y.1 i.x = subst (λ (l : List ℕ). One l i.x) (sym h.rest) i.first in
    let v = h.value in
    let w = i.value in
    subst (λ (p : ℕ × List ℕ). Front (Digits 4 p.0) bytes p.1) (some_is (n, b.0.1) z b.2)
    (ruled (Digits 4 n) (Digits 4 n) bytes i.y.1 b.0.1 i.rest (λ text d. d)
    (four_front bytes h.x h.y i.x i.y n h.first h.second first i.second (omega (arith, v, w))))

-- ---- words

one_more : (p : ℕ → Bool) (x : ℕ) (xs : List ℕ) (t : Bool) → p x ≡ t → Many p (take (prefix_len p xs) xs) → Many p (take (cond t (1 + prefix_len p xs) 0) (x ∷ xs))
one_more p x xs true e h =
    let k : 1 + prefix_len p xs ≡ suc (prefix_len p xs) = omega arith in
    subst (λ (m : ℕ). Many p (take m (x ∷ xs))) (sym k) (e, h)
one_more p x xs false e h = tt

pub many_taken : (p : ℕ → Bool) (xs : List ℕ) → Many p (take (prefix_len p xs) xs)
many_taken p [] = tt
many_taken p (x ∷ xs) = one_more p x xs (p x) refl (many_taken p xs)

word_front : (P : List ℕ → Type 0) (bytes : List ℕ) → (Many is_letter (word_at bytes).0 → P (word_at bytes).0) → Front P bytes (word_at bytes).1
word_front P bytes f = taken P (prefix_len is_letter bytes) bytes (f (many_taken is_letter bytes))

pub month_sound : (bytes : List ℕ) (z : ℕ × List ℕ) → month_at bytes ≡ Some z → Front (Month z.0) bytes z.1
month_sound bytes z e =
    let n = bind_some (month_of (word_at bytes).0) (λ (n : ℕ). Some (n, (word_at bytes).1)) z e in
    subst (λ (p : ℕ × List ℕ). Front (Month p.0) bytes p.1) (some_is (n.0, (word_at bytes).1) z n.2)
    (word_front (Month n.0) bytes (λ m. (m, n.1)))

long : (w : List ℕ) → (length w == 0) ≡ false → 0 < length w
long w e =
    let ne : length w ≡ 0 → ⊥ = not_from_Decides (length w == 0) (Decides-eqb (length w) 0) e in
    omega (arith, ne)

name_sound : (bytes r : List ℕ) → past_day_name bytes ≡ Some r → Front (Maybe (Joined DayName (Mark (codes ",")))) bytes r
name_sound bytes r e =
    let w = (word_at bytes).0 in
    let rest = (word_at bytes).1 in
    elim (either (length w == 0) (Some bytes) (cond (is_among day_names w) (past_mark 44 rest) None) (Some r) e) [
      | inl q ↦ record { text = []; parts = some_is bytes r q.1; is = inl refl }
      | inr q ↦ elim (either (is_among day_names w) (past_mark 44 rest) None (Some r) q.1) [
        | inl u ↦
            ruled (Joined DayName (Mark (codes ","))) (Maybe (Joined DayName (Mark (codes ",")))) bytes r r refl (λ text d. inr d)
            (joined DayName (Mark (codes ",")) bytes rest r (word_front DayName bytes (λ m. ((long w q.0, m), u.0))) (mark_sound 44 rest r u.1))
        | inr u ↦ absurd (let n : None ≡ Some r = u.1 in cc)
      ]
    ]

-- ---- zones

some_word : (w : List ℕ) (zone : Zone) → zone_of w ≡ Some zone → 0 < length w
some_word [] zone e = absurd cc
some_word (x ∷ xs) zone e = omega arith

record Offset (west : Bool) (bytes : List ℕ) (z : Zone × List ℕ) : Type 0 where
  front : Front (Joined (Digits 2 z.0.hours) (Digits 2 z.0.minutes)) bytes z.1
  west_is : z.0.is_west ≡ west

offset_sound : (west : Bool) (bytes : List ℕ) (z : Zone × List ℕ) → offset_at west bytes ≡ Some z → Offset west bytes z
offset_sound west bytes z e =
    let h = bind_some (two_at bytes) (λ (h : ℕ × List ℕ). two_at h.1 >>= (λ (m : ℕ × List ℕ). Some (offset west h.0 m.0, m.1))) z e in
    let m = bind_some (two_at h.0.1) (λ (m : ℕ × List ℕ). Some (offset west h.0.0 m.0, m.1)) z h.2 in
    subst (Offset west bytes) (some_is (offset west h.0.0 m.0.0, m.0.1) z m.2)
    (record {
      front = joined (Digits 2 h.0.0) (Digits 2 m.0.0) bytes h.0.1 m.0.1 (two_sound bytes h.0 h.1) (two_sound h.0.1 m.0 m.1);
      west_is = refl;
    })

abbrev Signed : Zone → List ℕ → Type 0
Signed zone = Joined (Sign zone.is_west) (Joined (Digits 2 zone.hours) (Digits 2 zone.minutes))

signed : (west : Bool) (c : ℕ) (bytes : List ℕ) (z : Zone × List ℕ) → ((w : Bool) → w ≡ west → Sign w (c ∷ [])) → first_is c bytes ≡ true
    → offset_at west (drop 1 bytes) ≡ Some z → Front (Signed z.0) bytes z.1
signed west c bytes z s f e =
    let o = offset_sound west (drop 1 bytes) z e in
    record {
      text = c ∷ o.front.text;
      parts = first_cons c bytes f ∙ ap (λ (l : List ℕ). c ∷ l) o.front.parts;
      is = record { front = c ∷ []; back = o.front.text; parts = refl; first = s z.0.is_west o.west_is; second = o.front.is };
    }

plus : (w : Bool) → w ≡ false → Sign w (43 ∷ [])
plus w e = subst (λ (v : Bool). Sign v (43 ∷ [])) (sym e) refl

minus : (w : Bool) → w ≡ true → Sign w (45 ∷ [])
minus w e = subst (λ (v : Bool). Sign v (45 ∷ [])) (sym e) refl

pub signed_sound : (bytes : List ℕ) (z : Zone × List ℕ) → signed_at bytes ≡ Some z → Front (Signed z.0) bytes z.1
signed_sound bytes z e =
    elim (either (first_is 43 bytes) (offset_at false (drop 1 bytes)) (cond (first_is 45 bytes) (offset_at true (drop 1 bytes)) None) (Some z) e) [
      | inl q ↦ signed false 43 bytes z plus q.0 q.1
      | inr q ↦ elim (either (first_is 45 bytes) (offset_at true (drop 1 bytes)) None (Some z) q.1) [
        | inl u ↦ signed true 45 bytes z minus u.0 u.1
        | inr u ↦ absurd (let n : None ≡ Some z = u.1 in cc)
      ]
    ]

named_sound : (bytes : List ℕ) (z : Zone × List ℕ) → named_at bytes ≡ Some z → Front (ZoneText z.0) bytes z.1
named_sound bytes z e =
    let w = (word_at bytes).0 in
    let n = bind_some (zone_of w) (λ (zone : Zone). Some (zone, (word_at bytes).1)) z e in
    subst (λ (p : Zone × List ℕ). Front (ZoneText p.0) bytes p.1) (some_is (n.0, (word_at bytes).1) z n.2)
    (word_front (ZoneText n.0) bytes (λ m. inr ((some_word w n.0 n.1, m), n.1)))

zone_sound : (bytes : List ℕ) (z : Zone × List ℕ) → zone_at bytes ≡ Some z → Front (ZoneText z.0) bytes z.1
zone_sound bytes z e =
    elim (either (first_is 43 bytes || first_is 45 bytes) (signed_at bytes) (named_at bytes) (Some z) e) [
      | inl q ↦ ruled (Signed z.0) (ZoneText z.0) bytes z.1 z.1 refl (λ text d. inl d) (signed_sound bytes z q.1)
      | inr q ↦ named_sound bytes z q.1
    ]

-- ---- seconds

colon_sound : (bytes start : List ℕ) (z : ℕ × List ℕ) → Front Blank bytes start → first_is 58 start ≡ true → behind_colon (drop 1 start) ≡ Some z
    → Front (Second z.0) bytes z.1
colon_sound bytes start z f c e =
    let a = bind_some (past_blank (drop 1 start)) (λ (d : List ℕ). two_at d >>= (λ (s : ℕ × List ℕ). past_blank s.1 >>= (λ (r : List ℕ). Some (s.0, r)))) z e in
    let s = bind_some (two_at a.0) (λ (s : ℕ × List ℕ). past_blank s.1 >>= (λ (r : List ℕ). Some (s.0, r))) z a.2 in
    let r = bind_some (past_blank s.0.1) (λ (r : List ℕ). Some (s.0.0, r)) z s.2 in
    let colon : Front (λ t. t ≡ codes ":") start (drop 1 start) = record { text = 58 ∷ []; parts = first_cons 58 start c; is = refl } in
    let mark : Front (Mark (codes ":")) bytes a.0 =
    joined Blank (Joined (λ t. t ≡ codes ":") Blank) bytes start a.0 f
    (joined (λ t. t ≡ codes ":") Blank start (drop 1 start) a.0 colon (blank_sound (drop 1 start) a.0 a.1)) in
    subst (λ (p : ℕ × List ℕ). Front (Second p.0) bytes p.1) (some_is (s.0.0, r.0) z r.2)
    (ruled (Joined (Mark (codes ":")) (Joined (Digits 2 s.0.0) Blank)) (Second s.0.0) bytes r.0 r.0 refl (λ text d. inr d)
    (joined (Mark (codes ":")) (Joined (Digits 2 s.0.0) Blank) bytes a.0 r.0 mark
    (joined (Digits 2 s.0.0) Blank a.0 s.0.1 r.0 (two_sound a.0 s.0 s.1) (blank_sound s.0.1 r.0 r.1))))

second_sound : (bytes : List ℕ) (z : ℕ × List ℕ) → second_at bytes ≡ Some z → Front (Second z.0) bytes z.1
second_sound bytes z e =
    let b = bind_some (past_blank bytes) (λ (start : List ℕ). cond (first_is 58 start) (behind_colon (drop 1 start)) (Some (0, start))) z e in
    let f = blank_sound bytes b.0 b.1 in
    elim (either (first_is 58 b.0) (behind_colon (drop 1 b.0)) (Some (0, b.0)) (Some z) b.2) [
      | inl q ↦ colon_sound bytes b.0 z f q.0 q.1
      | inr q ↦
          subst (λ (p : ℕ × List ℕ). Front (Second p.0) bytes p.1) (some_is (0, b.0) z q.1)
          (ruled Blank (Second 0) bytes b.0 b.0 refl (λ text d. inl (refl, d)) f)
    ]

-- ---- dates and times

gap_some : (n : ℕ) (bytes r : List ℕ) (t : Bool) → (n == 0) ≡ t → cond t None (Some (drop n bytes)) ≡ Some r → (0 < n) × (drop n bytes ≡ r)
gap_some n bytes r true e h = absurd cc
gap_some n bytes r false e h =
    let ne : n ≡ 0 → ⊥ = not_from_Decides (n == 0) (Decides-eqb n 0) e in
    (omega (arith, ne), some_is (drop n bytes) r h)

gap_sound : (bytes r : List ℕ) → past_gap bytes ≡ Some r → Front Gap bytes r
gap_sound [] r e = absurd cc
gap_sound (x ∷ xs) r e =
    let bytes = x ∷ xs in
    let b = bind_some (blank_len outside bytes) (λ (n : ℕ). cond (n == 0) None (Some (drop n bytes))) r e in
    let g = gap_some b.0 bytes r (b.0 == 0) refl b.2 in
    let l = length-take b.0 bytes in
    let p = g.0 in
    moved Gap bytes (drop b.0 bytes) r g.1 (taken Gap b.0 bytes (omega (arith, l, p), blank_found bytes false 0 b.0 b.1))

abbrev Parts : Type 0
Parts = (ℕ × ℕ × ℕ) × List ℕ

date_parts : (bytes : List ℕ) (z : Parts) → date_at bytes ≡ Some z → Front (Date z.0.0 z.0.1 z.0.2) bytes z.1
date_parts bytes z e =
    let d = bind_some (day_at bytes) (λ (d : ℕ × List ℕ). past_blank d.1 >>= (λ (a : List ℕ). month_at a >>= (λ (m : ℕ × List ℕ). past_blank m.1 >>= (λ (b : List ℕ). year_at b >>= (λ (y : ℕ × List ℕ). past_gap y.1 >>= (λ (r : List ℕ). Some ((y.0, m.0, d.0), r))))))) z e in
    let a = bind_some (past_blank d.0.1) (λ (a : List ℕ). month_at a >>= (λ (m : ℕ × List ℕ). past_blank m.1 >>= (λ (b : List ℕ). year_at b >>= (λ (y : ℕ × List ℕ). past_gap y.1 >>= (λ (r : List ℕ). Some ((y.0, m.0, d.0.0), r)))))) z d.2 in
    let m = bind_some (month_at a.0) (λ (m : ℕ × List ℕ). past_blank m.1 >>= (λ (b : List ℕ). year_at b >>= (λ (y : ℕ × List ℕ). past_gap y.1 >>= (λ (r : List ℕ). Some ((y.0, m.0, d.0.0), r))))) z a.2 in
    let b = bind_some (past_blank m.0.1) (λ (b : List ℕ). year_at b >>= (λ (y : ℕ × List ℕ). past_gap y.1 >>= (λ (r : List ℕ). Some ((y.0, m.0.0, d.0.0), r)))) z m.2 in
    let y = bind_some (year_at b.0) (λ (y : ℕ × List ℕ). past_gap y.1 >>= (λ (r : List ℕ). Some ((y.0, m.0.0, d.0.0), r))) z b.2 in
    let r = bind_some (past_gap y.0.1) (λ (r : List ℕ). Some ((y.0.0, m.0.0, d.0.0), r)) z y.2 in
    let v : Parts = ((y.0.0, m.0.0, d.0.0), r.0) in
    subst (λ (p : Parts). Front (Date p.0.0 p.0.1 p.0.2) bytes p.1) (some_is v z r.2)
    (joined (Day d.0.0) (Joined Blank (Joined (Month m.0.0) (Joined Blank (Joined (Year y.0.0) Gap)))) bytes d.0.1 r.0 (day_sound bytes d.0 d.1)
    (joined Blank (Joined (Month m.0.0) (Joined Blank (Joined (Year y.0.0) Gap))) d.0.1 a.0 r.0 (blank_sound d.0.1 a.0 a.1)
    (joined (Month m.0.0) (Joined Blank (Joined (Year y.0.0) Gap)) a.0 m.0.1 r.0 (month_sound a.0 m.0 m.1)
    (joined Blank (Joined (Year y.0.0) Gap) m.0.1 b.0 r.0 (blank_sound m.0.1 b.0 b.1)
    (joined (Year y.0.0) Gap b.0 y.0.1 r.0 (year_sound b.0 y.0 y.1) (gap_sound y.0.1 r.0 r.1))))))

time_parts : (bytes : List ℕ) (z : Parts) → time_at bytes ≡ Some z → Front (Time z.0.0 z.0.1 z.0.2) bytes z.1
time_parts bytes z e =
    let h = bind_some (two_at bytes) (λ (h : ℕ × List ℕ). past_mark 58 h.1 >>= (λ (a : List ℕ). two_at a >>= (λ (m : ℕ × List ℕ). second_at m.1 >>= (λ (s : ℕ × List ℕ). Some ((h.0, m.0, s.0), s.1))))) z e in
    let a = bind_some (past_mark 58 h.0.1) (λ (a : List ℕ). two_at a >>= (λ (m : ℕ × List ℕ). second_at m.1 >>= (λ (s : ℕ × List ℕ). Some ((h.0.0, m.0, s.0), s.1)))) z h.2 in
    let m = bind_some (two_at a.0) (λ (m : ℕ × List ℕ). second_at m.1 >>= (λ (s : ℕ × List ℕ). Some ((h.0.0, m.0, s.0), s.1))) z a.2 in
    let s = bind_some (second_at m.0.1) (λ (s : ℕ × List ℕ). Some ((h.0.0, m.0.0, s.0), s.1)) z m.2 in
    let v : Parts = ((h.0.0, m.0.0, s.0.0), s.0.1) in
    subst (λ (p : Parts). Front (Time p.0.0 p.0.1 p.0.2) bytes p.1) (some_is v z s.2)
    (joined (Digits 2 h.0.0) (Joined (Mark (codes ":")) (Joined (Digits 2 m.0.0) (Second s.0.0))) bytes h.0.1 s.0.1 (two_sound bytes h.0 h.1)
    (joined (Mark (codes ":")) (Joined (Digits 2 m.0.0) (Second s.0.0)) h.0.1 a.0 s.0.1 (mark_sound 58 h.0.1 a.0 a.1)
    (joined (Digits 2 m.0.0) (Second s.0.0) a.0 m.0.1 s.0.1 (two_sound a.0 m.0 m.1) (second_sound m.0.1 s.0 s.1))))

-- ---- the whole

append_none : (xs : List ℕ) → xs ++ [] ≡ xs
append_none [] = refl
append_none (x ∷ xs) = ap (λ (l : List ℕ). x ∷ l) (append_none xs)

pub ended : (P : List ℕ → Type 0) (text rest : List ℕ) (s z : Stamp) → Front P text rest → if_ended rest s ≡ Some z → P text × (is_date s ≡ true) × (s ≡ z)
ended P text [] s z f e =
    let g = guard_some (is_date s) s z e in
    (subst P (sym (f.parts ∙ append_none f.text)) f.is, g.0, g.1)
ended P text (x ∷ xs) s z f e = absurd (no (length (x ∷ xs) == 0) (decides (length xs)) e)
  where
    decides : (n : ℕ) → (suc n == 0) ≡ false
    decides = not_zero

    no : (t : Bool) → t ≡ false → cond t (checked s) None ≡ Some z → ⊥
    no true f e = absurd cc
    no false f e = cc

whole_is : (text : List ℕ) → date_time text ≡ (past_blank text >>= (λ (a : List ℕ). past_day_name a >>= (λ (b : List ℕ). date_at b >>= (λ (d : Parts). time_at d.1 >>= (λ (t : Parts). zone_at t.1 >>= (λ (z : Zone × List ℕ). past_blank z.1 >>= (λ (r : List ℕ). if_ended r (stamped d.0 t.0 z.0))))))))
unfolding date_time
whole_is text = refl

pub date_sound : (text : List ℕ) (s : Stamp) → date_time text ≡ Some s → DateTime s text
date_sound text s h =
    let e = sym (whole_is text) ∙ h in
    let a = bind_some (past_blank text) (λ (a : List ℕ). past_day_name a >>= (λ (b : List ℕ). date_at b >>= (λ (d : Parts). time_at d.1 >>= (λ (t : Parts). zone_at t.1 >>= (λ (z : Zone × List ℕ). past_blank z.1 >>= (λ (r : List ℕ). if_ended r (stamped d.0 t.0 z.0))))))) s e in
    let b = bind_some (past_day_name a.0) (λ (b : List ℕ). date_at b >>= (λ (d : Parts). time_at d.1 >>= (λ (t : Parts). zone_at t.1 >>= (λ (z : Zone × List ℕ). past_blank z.1 >>= (λ (r : List ℕ). if_ended r (stamped d.0 t.0 z.0)))))) s a.2 in
    let d = bind_some (date_at b.0) (λ (d : Parts). time_at d.1 >>= (λ (t : Parts). zone_at t.1 >>= (λ (z : Zone × List ℕ). past_blank z.1 >>= (λ (r : List ℕ). if_ended r (stamped d.0 t.0 z.0))))) s b.2 in
    let t = bind_some (time_at d.0.1) (λ (t : Parts). zone_at t.1 >>= (λ (z : Zone × List ℕ). past_blank z.1 >>= (λ (r : List ℕ). if_ended r (stamped d.0.0 t.0 z.0)))) s d.2 in
    let z = bind_some (zone_at t.0.1) (λ (z : Zone × List ℕ). past_blank z.1 >>= (λ (r : List ℕ). if_ended r (stamped d.0.0 t.0.0 z.0))) s t.2 in
    let r = bind_some (past_blank z.0.1) (λ (r : List ℕ). if_ended r (stamped d.0.0 t.0.0 z.0.0)) s z.2 in
    let v = stamped d.0.0 t.0.0 z.0.0 in
    let front : Front (Spelled v) text r.0 =
    joined Blank (Joined (Maybe (Joined DayName (Mark (codes ",")))) (Joined (Date v.year v.month v.day) (Joined (Time v.hour v.minute v.second) (Joined (ZoneText v.zone) Blank)))) text a.0 r.0 (blank_sound text a.0 a.1)
    (joined (Maybe (Joined DayName (Mark (codes ",")))) (Joined (Date v.year v.month v.day) (Joined (Time v.hour v.minute v.second) (Joined (ZoneText v.zone) Blank))) a.0 b.0 r.0 (name_sound a.0 b.0 b.1)
    (joined (Date v.year v.month v.day) (Joined (Time v.hour v.minute v.second) (Joined (ZoneText v.zone) Blank)) b.0 d.0.1 r.0 (date_parts b.0 d.0 d.1)
    (joined (Time v.hour v.minute v.second) (Joined (ZoneText v.zone) Blank) d.0.1 t.0.1 r.0 (time_parts d.0.1 t.0 t.1)
    (joined (ZoneText v.zone) Blank t.0.1 z.0.1 r.0 (zone_sound t.0.1 z.0 z.1) (blank_sound z.0.1 r.0 r.1))))) in
    let w = ended (Spelled v) text r.0 v s front r.2 in
    subst (λ (x : Stamp). DateTime x text) w.2 (w.0, w.1)
