-- The date of a key: what is spelled is read, and what is read is spelled.
use Rattle.std.proofs.Common.{◌≡◌, ℕ, ◌<◌, ◌≤◌, Bool, true, false, cond, List, [], ◌∷◌, ◌++◌, length}
use Rattle.std.proofs.Common.{refl, ap, sym, subst, ◌∙◌, arith, append_assoc, inl, inr}
use Rattle.std.specs.Prelude.{Option, Some, None, codes, ◌==◌, ◌&&◌, ◌||◌, nat_le}
use Rattle.std.proofs.lemmas.Bool.{le-leb, leb-true}
use Rattle.std.proofs.lemmas.Bool.Decides.{Decides-eqb, nat_tests}
use Rattle.envelope.proofs.Sound.{bind_some, guard_some, byte_sound}
use Rattle.envelope.proofs.Words.{append_none, both_true}
use Rattle.envelope.specs.Grammar.{Many, Some1, Exactly, Joined}
use Rattle.envelope.specs.Reading.{◌>>=◌, past_byte}
use Rattle.mail_date.proofs.Again.{day_again, day_start, month_again, four_again}
use Rattle.mail_date.proofs.BlanksAgain.{Starts, Stops}
use Rattle.mail_date.proofs.Sound.{day_sound, month_sound, four_sound}
use Rattle.mail_date.specs.Bytes.{is_digit, is_letter}
use Rattle.mail_date.specs.Grammar as dates
use Rattle.mail_date.specs.InternalBack.{four_at}
use Rattle.mail_date.specs.Reading.{day_at, month_at}
use Rattle.imap_grammar.specs.Grammar.{DateText, DateIs}
use Rattle.imap_grammar.specs.SearchReading.{date_at, date_in, date_or_quoted, if_date, quoted_date}
use Rattle.imap_grammar.specs.declared.dates.Day.{Day}
use Rattle.imap_grammar.proofs.Chains.{inside}
use Rattle.imap_grammar.proofs.Tokens.{many_joined, many_map}

-- ---- bytes of dates

-- a digit, a letter, `-` or a quote
abbrev pub is_date_byte : ℕ → Bool
is_date_byte b = is_digit b || (is_letter b || ((b == 45) || (b == 34)))

digit_byte : (b : ℕ) → is_digit b ≡ true → is_date_byte b ≡ true
digit_byte b h = ap (λ (t : Bool). t || (is_letter b || ((b == 45) || (b == 34)))) h

letter_byte : (b : ℕ) → is_letter b ≡ true → is_date_byte b ≡ true
letter_byte b h = grind (arith, nat_tests)

digits_all : (k n : ℕ) (text : List ℕ) → dates.Digits k n text → Many is_date_byte text
digits_all k n text d = many_map is_digit is_date_byte digit_byte text d.1

day_all : (n : ℕ) (text : List ℕ) → dates.Day n text → Many is_date_byte text
day_all n text (inl d) = digits_all 1 n text d
day_all n text (inr d) = digits_all 2 n text d

mark_all : (c : ℕ) (text : List ℕ) → is_date_byte c ≡ true → text ≡ c ∷ [] → Many is_date_byte text
mark_all c text h e = subst (Many is_date_byte) (sym e) (h, tt)

both_all : (a b text : List ℕ) → text ≡ a ++ b → Many is_date_byte a → Many is_date_byte b → Many is_date_byte text
both_all a b text e h k = subst (Many is_date_byte) (sym e) (many_joined is_date_byte a b h k)

text_all : (d : Day) (text : List ℕ) → DateText d text → Many is_date_byte text
text_all d text q =
    let r = q.second in
    let s = r.second in
    let t = s.second in
    both_all q.front q.back text q.parts (day_all d.day q.front q.first)
    (both_all r.front r.back q.back r.parts (mark_all 45 r.front refl r.first)
    (both_all s.front s.back r.back s.parts (many_map is_letter is_date_byte letter_byte s.front s.first.0)
    (both_all t.front t.back s.back t.parts (mark_all 45 t.front refl t.first) (digits_all 4 d.year t.back t.second))))

abbrev DateQuoted : Day → List ℕ → Type 0
DateQuoted d = Joined (Exactly (codes "\"")) (Joined (DateText d) (Exactly (codes "\"")))

quoted_all : (d : Day) (text : List ℕ) → DateQuoted d text → Many is_date_byte text
quoted_all d text q =
    both_all q.front q.back text q.parts (mark_all 34 q.front refl q.first)
    (both_all q.second.front q.second.back q.back q.second.parts (text_all d q.second.front q.second.first)
    (mark_all 34 q.second.back refl q.second.second))

-- it begins with a digit
text_starts : (d : Day) (text rest : List ℕ) → DateText d text → Starts is_digit (text ++ rest)
text_starts d text rest q =
    subst (λ (l : List ℕ). Starts is_digit (l ++ rest)) (sym q.parts)
    (subst (Starts is_digit) (sym (append_assoc q.front q.back rest)) (starts_on q.front (q.back ++ rest) (day_start d.day q.front q.first)))
  where
    starts_on : (a b : List ℕ) → Starts is_digit a → Starts is_digit (a ++ b)
    starts_on [] b h = absurd h
    starts_on (x ∷ xs) b h = h

some_text : (p : ℕ → Bool) (text : List ℕ) → Starts p text → 0 < length text
some_text p [] h = absurd h
some_text p (x ∷ xs) h = omega arith

pub date_all : (d : Day) (text : List ℕ) → DateIs d text → Some1 is_date_byte text
date_all d text (low, high, inl q) =
    let s = text_starts d text [] q in
    (some_text is_digit text (subst (Starts is_digit) (append_none text) s), text_all d text q)
date_all d text (low, high, inr q) =
    let e : text ≡ 34 ∷ q.back = q.parts ∙ ap (λ (l : List ℕ). l ++ q.back) q.first in
    (subst (λ (l : List ℕ). 0 < length l) (sym e) (omega arith), quoted_all d text q)

-- ---- what is spelled is read

dash_again : (x rest : List ℕ) → x ≡ codes "-" → past_byte 45 (x ++ rest) ≡ Some rest
dash_again x rest e = ap (λ (l : List ℕ). past_byte 45 (l ++ rest)) e

quote_again : (x rest : List ℕ) → x ≡ codes "\"" → past_byte 34 (x ++ rest) ≡ Some rest
quote_again x rest e = ap (λ (l : List ℕ). past_byte 34 (l ++ rest)) e

abbrev with_year : ℕ → ℕ → ℕ × List ℕ → Option (Day × List ℕ)
with_year d m y = Some (record { year = y.0; month = m; day = d }, y.1)

abbrev with_month : ℕ → ℕ × List ℕ → Option (Day × List ℕ)
with_month d m = past_byte 45 m.1 >>= (λ b. four_at b >>= with_year d m.0)

abbrev with_day : ℕ × List ℕ → Option (Day × List ℕ)
with_day d = past_byte 45 d.1 >>= (λ a. month_at a >>= with_month d.0)

dash_digit : (x rest : List ℕ) → x ≡ codes "-" → Stops is_digit (x ++ rest)
dash_digit x rest e = subst (λ (l : List ℕ). Stops is_digit (l ++ rest)) (sym e) refl

dash_letter : (x rest : List ℕ) → x ≡ codes "-" → Stops is_letter (x ++ rest)
dash_letter x rest e = subst (λ (l : List ℕ). Stops is_letter (l ++ rest)) (sym e) refl

date_parts : (d : Day) (text rest : List ℕ) → (q : DateText d text)
    → text ++ rest ≡ q.front ++ (q.second.front ++ (q.second.second.front ++ (q.second.second.second.front ++ (q.second.second.second.back ++ rest))))
date_parts d text rest q =
    let r = q.second in
    let s = r.second in
    let t = s.second in
    step text q.front q.back rest q.parts
    ∙ ap (λ (l : List ℕ). q.front ++ l) (step q.back r.front r.back rest r.parts
    ∙ ap (λ (l : List ℕ). r.front ++ l) (step r.back s.front s.back rest s.parts
    ∙ ap (λ (l : List ℕ). s.front ++ l) (step s.back t.front t.back rest t.parts)))
  where
    step : (x a b rest : List ℕ) → x ≡ a ++ b → x ++ rest ≡ a ++ (b ++ rest)
    step x a b rest e = ap (λ (l : List ℕ). l ++ rest) e ∙ append_assoc a b rest

text_again : (d : Day) (text rest : List ℕ) → DateText d text → date_at (text ++ rest) ≡ Some (d, rest)
text_again d text rest q =
    let r = q.second in
    let s = r.second in
    let t = s.second in
    let c = t.front ++ (t.back ++ rest) in
    let b = r.front ++ (s.front ++ c) in
    ap date_at (date_parts d text rest q)
    ∙ ap (λ o. o >>= with_day) (day_again d.day q.front b q.first (dash_digit r.front (s.front ++ c) r.first))
    ∙ ap (λ o. o >>= (λ a. month_at a >>= with_month d.day)) (dash_again r.front (s.front ++ c) r.first)
    ∙ ap (λ o. o >>= with_month d.day) (month_again d.month s.front c s.first (dash_letter t.front (t.back ++ rest) t.first))
    ∙ ap (λ o. o >>= (λ b. four_at b >>= with_year d.day d.month)) (dash_again t.front (t.back ++ rest) t.first)
    ∙ ap (λ o. o >>= with_year d.day d.month) (four_again d.year t.back rest t.second)

whole_again : (d : Day) → 1 ≤ d.day → d.day ≤ 31 → if_date (d, []) ≡ Some d
whole_again d low high =
    ap (λ (t : Bool). cond ((t && nat_le d.day 31) && true) (Some d) None) (le-leb 1 d.day low)
    ∙ ap (λ (t : Bool). cond (t && true) (Some d) None) (le-leb d.day 31 high)

-- no quote stands first
unquoted : (text : List ℕ) → Starts is_digit text → past_byte 34 text ≡ None
unquoted [] h = absurd h
unquoted (x ∷ xs) h =
    let no : (x == 34) ≡ false = grind (arith, nat_tests) in
    ap (λ (t : Bool). cond t (Some xs) None) no

pub date_again : (d : Day) (text : List ℕ) → DateIs d text → date_in text ≡ Some d
unfolding date_in
date_again d text (low, high, inl q) =
    let same = append_none text in
    ap (λ o. date_or_quoted o text) (unquoted text (subst (Starts is_digit) same (text_starts d text [] q)))
    ∙ ap (λ (l : List ℕ). date_at l >>= if_date) (sym same)
    ∙ ap (λ o. o >>= if_date) (text_again d text [] q)
    ∙ whole_again d low high
date_again d text (low, high, inr q) =
    let r = q.second in
    ap (λ (l : List ℕ). date_or_quoted (past_byte 34 l) l) q.parts
    ∙ ap (λ o. date_or_quoted o (q.front ++ q.back)) (quote_again q.front q.back q.first)
    ∙ ap quoted_date r.parts
    ∙ ap (λ o. o >>= (λ read. past_byte 34 read.1 >>= (λ rest. if_date (read.0, rest)))) (text_again d r.front r.back r.first)
    ∙ ap (λ (l : List ℕ). past_byte 34 l >>= (λ rest. if_date (d, rest))) r.second
    ∙ whole_again d low high

-- ---- what is read is spelled

record FoundDate (d : Day) (bytes rest : List ℕ) : Type 0 where
  text : List ℕ
  parts : bytes ≡ text ++ rest
  is : DateText d text

date_joined : (d : Day) (a b c : List ℕ) → dates.Day d.day a → dates.Month d.month b → dates.Digits 4 d.year c
    → DateText d (a ++ (45 ∷ (b ++ (45 ∷ c))))
date_joined d a b c h k l = record {
  front = a;
  back = 45 ∷ (b ++ (45 ∷ c));
  parts = refl;
  first = h;
  second = record {
    front = 45 ∷ [];
    back = b ++ (45 ∷ c);
    parts = refl;
    first = refl;
    second = record {
      front = b;
      back = 45 ∷ c;
      parts = refl;
      first = k;
      second = record { front = 45 ∷ []; back = c; parts = refl; first = refl; second = l };
    };
  };
}

dashes : (a b c rest : List ℕ) → a ++ (45 ∷ (b ++ (45 ∷ (c ++ rest)))) ≡ (a ++ (45 ∷ (b ++ (45 ∷ c)))) ++ rest
dashes a b c rest =
    ap (λ (l : List ℕ). a ++ (45 ∷ l)) (sym (append_assoc b (45 ∷ c) rest)) ∙ sym (append_assoc a (45 ∷ (b ++ (45 ∷ c))) rest)

text_sound : (bytes : List ℕ) (read : Day × List ℕ) → date_at bytes ≡ Some read → FoundDate read.0 bytes read.1
text_sound bytes read e =
    let d = bind_some (day_at bytes) with_day read e in
    let a = bind_some (past_byte 45 d.0.1) (λ a. month_at a >>= with_month d.0.0) read d.2 in
    let m = bind_some (month_at a.0) (with_month d.0.0) read a.2 in
    let b = bind_some (past_byte 45 m.0.1) (λ b. four_at b >>= with_year d.0.0 m.0.0) read m.2 in
    let y = bind_some (four_at b.0) (with_year d.0.0 m.0.0) read b.2 in
    let day : Day = record { year = y.0.0; month = m.0.0; day = d.0.0 } in
    let pair : Day × List ℕ = (day, y.0.1) in
    let f = day_sound bytes d.0 d.1 in
    let g = month_sound a.0 m.0 m.1 in
    let h = four_sound b.0 y.0 y.1 in
    subst (λ (p : Day × List ℕ). FoundDate p.0 bytes p.1) (inside pair read y.2)
    (record {
      text = f.text ++ (45 ∷ (g.text ++ (45 ∷ h.text)));
      parts = f.parts
          ∙ ap (λ (l : List ℕ). f.text ++ l) (byte_sound 45 d.0.1 a.0 a.1
          ∙ ap (λ (l : List ℕ). 45 ∷ l) (g.parts
          ∙ ap (λ (l : List ℕ). g.text ++ l) (byte_sound 45 m.0.1 b.0 b.1 ∙ ap (λ (l : List ℕ). 45 ∷ l) h.parts)))
          ∙ dashes f.text g.text h.text y.0.1;
      is = date_joined day f.text g.text h.text f.is g.is h.is;
    })

record Whole (d x : Day) (rest : List ℕ) : Type 0 where
  low : 1 ≤ d.day
  high : d.day ≤ 31
  end : rest ≡ []
  same : x ≡ d

nothing_left : (rest : List ℕ) → (length rest == 0) ≡ true → rest ≡ []
nothing_left [] e = refl
nothing_left (x ∷ xs) e = absurd (let bad : length (x ∷ xs) ≡ 0 = (Decides-eqb (length (x ∷ xs)) 0).0 e in omega (arith, bad))

whole_sound : (x d : Day) (rest : List ℕ) → if_date (x, rest) ≡ Some d → Whole d x rest
whole_sound x d rest e =
    let g = guard_some ((nat_le 1 x.day && nat_le x.day 31) && (length rest == 0)) x d e in
    let a = both_true (nat_le 1 x.day && nat_le x.day 31) (length rest == 0) g.0 in
    let b = both_true (nat_le 1 x.day) (nat_le x.day 31) a.0 in
    record {
      low = subst (λ (y : Day). 1 ≤ y.day) g.1 (leb-true 1 x.day b.0);
      high = subst (λ (y : Day). y.day ≤ 31) g.1 (leb-true x.day 31 b.1);
      end = nothing_left rest a.1;
      same = g.1;
    }

quoted_sound : (d : Day) (bytes : List ℕ) → quoted_date bytes ≡ Some d → (1 ≤ d.day) × (d.day ≤ 31) × Joined (DateText d) (Exactly (codes "\"")) bytes
quoted_sound d bytes e =
    let a = bind_some (date_at bytes) (λ read. past_byte 34 read.1 >>= (λ rest. if_date (read.0, rest))) d e in
    let b = bind_some (past_byte 34 a.0.1) (λ rest. if_date (a.0.0, rest)) d a.2 in
    let w = whole_sound a.0.0 d b.0 b.2 in
    let f = text_sound bytes a.0 a.1 in
    let last : a.0.1 ≡ codes "\"" = byte_sound 34 a.0.1 b.0 b.1 ∙ ap (λ (l : List ℕ). 34 ∷ l) w.end in
    let read : DateText d f.text = subst (λ (y : Day). DateText y f.text) w.same f.is in
    (w.low, w.high, record { front = f.text; back = a.0.1; parts = f.parts; first = read; second = last })

date_case : (o : Option (List ℕ)) (d : Day) (text : List ℕ) → past_byte 34 text ≡ o → date_or_quoted o text ≡ Some d → DateIs d text
date_case (Some start) d text e h =
    let q = quoted_sound d start h in
    (q.0, q.1, inr (record { front = codes "\""; back = start; parts = byte_sound 34 text start e; first = refl; second = q.2 }))
date_case None d text e h =
    let a = bind_some (date_at text) if_date d h in
    let w = whole_sound a.0.0 d a.0.1 a.2 in
    let f = text_sound text a.0 a.1 in
    let all : text ≡ f.text = f.parts ∙ ap (λ (l : List ℕ). f.text ++ l) w.end ∙ append_none f.text in
    (w.low, w.high, inl (subst (DateText d) (sym all) (subst (λ (y : Day). DateText y f.text) w.same f.is)))

pub date_sound : (d : Day) (text : List ℕ) → date_in text ≡ Some d → DateIs d text
unfolding date_in
date_sound d text e = date_case (past_byte 34 text) d text refl e
