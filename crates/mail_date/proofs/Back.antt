-- What is written is read back.
use Rattle.std.proofs.Common.{◌≡◌, ℕ, zero, suc, ◌+◌, ◌-◌, ◌*◌, ◌/◌, ◌%◌, ◌<◌, ◌≤◌, Bool, true, false, cond, List, [], ◌∷◌, ◌++◌, refl, ap, ◌∙◌, arith}
use Rattle.std.specs.Prelude.{Option, Some, None, ◌&&◌, nat_le, codes}
use Rattle.std.proofs.lemmas.Bool.{le-leb}
use Rattle.std.proofs.lemmas.Bool.Decides.{nat_tests}
use Rattle.mail_date.specs.declared.stamp.Stamp.{Stamp}
use Rattle.mail_date.specs.declared.stamp.Zone.{Zone}
use Rattle.mail_date.specs.Bytes.{is_digit}
use Rattle.mail_date.specs.Dates.{month_names, offset, is_date}
use Rattle.mail_date.specs.Reading.{◌>>=◌, past_byte, two_at, month_at, signed_at, stamped, if_ended}
use Rattle.mail_date.specs.Internal.{digit, two_digits, four_digits, name_at, internal_text}
use Rattle.mail_date.specs.InternalBack.{four_at, fixed_day_at, fixed_date_at, fixed_time_at, internal_date}
use Rattle.mail_date.proofs.Again.{two_is, said}
use Rattle.mail_date.proofs.GivenAgain.{no_space}

pub digit_is : (n : ℕ) → n < 10 → is_digit (digit n) ≡ true
digit_is n h = ap (λ (t : Bool). t && nat_le (digit n) 57) (le-leb 48 (digit n) (omega (arith, h))) ∙ le-leb (digit n) 57 (omega (arith, h))

two_back : (n : ℕ) (rest : List ℕ) → n ≤ 99 → two_at (two_digits n ++ rest) ≡ Some (n, rest)
two_back n rest h =
    two_is (digit (n / 10)) (digit (n % 10)) rest (digit_is (n / 10) (omega (arith, h))) (digit_is (n % 10) (omega arith))
    ∙ said ((digit (n / 10) - 48) * 10 + (digit (n % 10) - 48)) n rest (omega (arith, h))

day_back : (n : ℕ) (rest : List ℕ) → n ≤ 99 → fixed_day_at (two_digits n ++ rest) ≡ Some (n, rest)
day_back n rest h = no_space (two_digits n) rest (digit_is (n / 10) (omega (arith, h))) ∙ two_back n rest h

four_back : (n : ℕ) (rest : List ℕ) → n ≤ 9999 → four_at (four_digits n ++ rest) ≡ Some (n, rest)
four_back n rest h =
    ap (λ (o : Option (ℕ × List ℕ)). o >>= (λ (a : ℕ × List ℕ). two_at a.1 >>= (λ (b : ℕ × List ℕ). Some (a.0 * 100 + b.0, b.1)))) (two_back (n / 100) (two_digits (n % 100) ++ rest) (omega (arith, h)))
    ∙ ap (λ (o : Option (ℕ × List ℕ)). o >>= (λ (b : ℕ × List ℕ). Some (n / 100 * 100 + b.0, b.1))) (two_back (n % 100) rest (omega arith))
    ∙ said (n / 100 * 100 + n % 100) n rest (omega arith)

-- ---- months

record Month (m : ℕ) : Type 0 where
  a : ℕ
  b : ℕ
  c : ℕ
  name : name_at m month_names ≡ a ∷ b ∷ c ∷ []
  reads : (rest : List ℕ) → month_at (a ∷ b ∷ c ∷ 45 ∷ rest) ≡ Some (m, 45 ∷ rest)

month : (m : ℕ) → 1 ≤ m → m ≤ 12 → Month m
month zero l h = absurd (omega (arith, l))
month (suc zero) l h = record { a = 74; b = 97; c = 110; name = refl; reads = λ rest. refl }
month (suc (suc zero)) l h = record { a = 70; b = 101; c = 98; name = refl; reads = λ rest. refl }
month (suc (suc (suc zero))) l h = record { a = 77; b = 97; c = 114; name = refl; reads = λ rest. refl }
month (suc (suc (suc (suc zero)))) l h = record { a = 65; b = 112; c = 114; name = refl; reads = λ rest. refl }
month (suc (suc (suc (suc (suc zero))))) l h = record { a = 77; b = 97; c = 121; name = refl; reads = λ rest. refl }
month (suc (suc (suc (suc (suc (suc zero)))))) l h = record { a = 74; b = 117; c = 110; name = refl; reads = λ rest. refl }
month (suc (suc (suc (suc (suc (suc (suc zero))))))) l h = record { a = 74; b = 117; c = 108; name = refl; reads = λ rest. refl }
month (suc (suc (suc (suc (suc (suc (suc (suc zero)))))))) l h = record { a = 65; b = 117; c = 103; name = refl; reads = λ rest. refl }
month (suc (suc (suc (suc (suc (suc (suc (suc (suc zero))))))))) l h = record { a = 83; b = 101; c = 112; name = refl; reads = λ rest. refl }
month (suc (suc (suc (suc (suc (suc (suc (suc (suc (suc zero)))))))))) l h = record { a = 79; b = 99; c = 116; name = refl; reads = λ rest. refl }
month (suc (suc (suc (suc (suc (suc (suc (suc (suc (suc (suc zero))))))))))) l h = record { a = 78; b = 111; c = 118; name = refl; reads = λ rest. refl }
month (suc (suc (suc (suc (suc (suc (suc (suc (suc (suc (suc (suc zero)))))))))))) l h = record { a = 68; b = 101; c = 99; name = refl; reads = λ rest. refl }
month (suc (suc (suc (suc (suc (suc (suc (suc (suc (suc (suc (suc (suc n))))))))))))) l h = absurd (omega (arith, h))

-- ---- the whole

abbrev Parts : Type 0
Parts = (ℕ × ℕ × ℕ) × List ℕ

date_back : (y m d : ℕ) (rest : List ℕ) → (n : Month m) → y ≤ 9999 → d ≤ 99
    → fixed_date_at (two_digits d ++ (45 ∷ n.a ∷ n.b ∷ n.c ∷ 45 ∷ (four_digits y ++ rest))) ≡ Some ((y, m, d), rest)
date_back y m d rest n p q =
    ap (λ (o : Option (ℕ × List ℕ)). o >>= (λ (d : ℕ × List ℕ). past_byte 45 d.1 >>= (λ (a : List ℕ). month_at a >>= (λ (m : ℕ × List ℕ). past_byte 45 m.1 >>= (λ (b : List ℕ). four_at b >>= (λ (y : ℕ × List ℕ). Some ((y.0, m.0, d.0), y.1)))))))
    (day_back d (45 ∷ n.a ∷ n.b ∷ n.c ∷ 45 ∷ (four_digits y ++ rest)) q)
    ∙ ap (λ (o : Option (ℕ × List ℕ)). o >>= (λ (m : ℕ × List ℕ). past_byte 45 m.1 >>= (λ (b : List ℕ). four_at b >>= (λ (y : ℕ × List ℕ). Some ((y.0, m.0, d), y.1)))))
    (n.reads (four_digits y ++ rest))
    ∙ ap (λ (o : Option (ℕ × List ℕ)). o >>= (λ (y : ℕ × List ℕ). Some ((y.0, m, d), y.1))) (four_back y rest p)

time_back : (h m s : ℕ) (rest : List ℕ) → h ≤ 99 → m ≤ 99 → s ≤ 99
    → fixed_time_at (two_digits h ++ (58 ∷ (two_digits m ++ (58 ∷ (two_digits s ++ rest))))) ≡ Some ((h, m, s), rest)
time_back h m s rest p q r =
    ap (λ (o : Option (ℕ × List ℕ)). o >>= (λ (h : ℕ × List ℕ). past_byte 58 h.1 >>= (λ (a : List ℕ). two_at a >>= (λ (m : ℕ × List ℕ). past_byte 58 m.1 >>= (λ (b : List ℕ). two_at b >>= (λ (s : ℕ × List ℕ). Some ((h.0, m.0, s.0), s.1)))))))
    (two_back h (58 ∷ (two_digits m ++ (58 ∷ (two_digits s ++ rest)))) p)
    ∙ ap (λ (o : Option (ℕ × List ℕ)). o >>= (λ (m : ℕ × List ℕ). past_byte 58 m.1 >>= (λ (b : List ℕ). two_at b >>= (λ (s : ℕ × List ℕ). Some ((h, m.0, s.0), s.1))))) (two_back m (58 ∷ (two_digits s ++ rest)) q)
    ∙ ap (λ (o : Option (ℕ × List ℕ)). o >>= (λ (s : ℕ × List ℕ). Some ((h, m, s.0), s.1))) (two_back s rest r)

abbrev sign_of : Bool → ℕ
sign_of true = 45
sign_of false = 43

offset_back : (w : Bool) (h m : ℕ) → h ≤ 99 → m ≤ 99 → signed_at (sign_of w ∷ (two_digits h ++ (two_digits m ++ []))) ≡ Some (offset w h m, [])
offset_back true h m p q =
    ap (λ (o : Option (ℕ × List ℕ)). o >>= (λ (h : ℕ × List ℕ). two_at h.1 >>= (λ (m : ℕ × List ℕ). Some (offset true h.0 m.0, m.1)))) (two_back h (two_digits m ++ []) p)
    ∙ ap (λ (o : Option (ℕ × List ℕ)). o >>= (λ (m : ℕ × List ℕ). Some (offset true h m.0, m.1))) (two_back m [] q)
offset_back false h m p q =
    ap (λ (o : Option (ℕ × List ℕ)). o >>= (λ (h : ℕ × List ℕ). two_at h.1 >>= (λ (m : ℕ × List ℕ). Some (offset false h.0 m.0, m.1)))) (two_back h (two_digits m ++ []) p)
    ∙ ap (λ (o : Option (ℕ × List ℕ)). o >>= (λ (m : ℕ × List ℕ). Some (offset false h m.0, m.1))) (two_back m [] q)

abbrev text_of : List ℕ → List ℕ → Stamp → List ℕ
text_of name sign s =
    ((two_digits s.day ++ codes "-" ++ name ++ codes "-" ++ four_digits s.year) ++ codes " "
    ++ (two_digits s.hour ++ codes ":" ++ two_digits s.minute ++ codes ":" ++ two_digits s.second) ++ codes " "
    ++ (sign ++ two_digits s.zone.hours ++ two_digits s.zone.minutes))

sign_is : (w : Bool) → cond w (codes "-") (codes "+") ≡ sign_of w ∷ []
sign_is true = refl
sign_is false = refl

whole_is : (text : List ℕ) → internal_date text ≡ (fixed_date_at text >>= (λ (d : Parts). past_byte 32 d.1 >>= (λ (a : List ℕ). fixed_time_at a >>= (λ (t : Parts). past_byte 32 t.1 >>= (λ (b : List ℕ). signed_at b >>= (λ (z : Zone × List ℕ). if_ended z.1 (stamped d.0 t.0 z.0)))))))
unfolding internal_date
whole_is text = refl

pub date_back_again : (s : Stamp) → is_date s ≡ true → internal_date (internal_text s) ≡ Some s
date_back_again s h =
    let low : 1 ≤ s.month = grind (arith, nat_tests) in
    let high : s.month ≤ 12 = grind (arith, nat_tests) in
    let y : s.year ≤ 9999 = grind (arith, nat_tests) in
    let d : s.day ≤ 99 = grind (arith, nat_tests) in
    let hh : s.hour ≤ 99 = grind (arith, nat_tests) in
    let mm : s.minute ≤ 99 = grind (arith, nat_tests) in
    let ss : s.second ≤ 99 = grind (arith, nat_tests) in
    let zh : s.zone.hours ≤ 99 = grind (arith, nat_tests) in
    let zm : s.zone.minutes ≤ 99 = grind (arith, nat_tests) in
    let n = month s.month low high in
    let w = s.zone.is_west in
    let e3 = sign_of w ∷ (two_digits s.zone.hours ++ (two_digits s.zone.minutes ++ [])) in
    let e2 = two_digits s.hour ++ (58 ∷ (two_digits s.minute ++ (58 ∷ (two_digits s.second ++ (32 ∷ e3))))) in
    let date : ℕ × ℕ × ℕ = (s.year, s.month, s.day) in
    let time : ℕ × ℕ × ℕ = (s.hour, s.minute, s.second) in
    ap (λ (x : List ℕ). internal_date (text_of x (cond w (codes "-") (codes "+")) s)) n.name
    ∙ ap (λ (x : List ℕ). internal_date (text_of (n.a ∷ n.b ∷ n.c ∷ []) x s)) (sign_is w)
    ∙ whole_is (text_of (n.a ∷ n.b ∷ n.c ∷ []) (sign_of w ∷ []) s)
    ∙ ap (λ (o : Option Parts). o >>= (λ (d : Parts). past_byte 32 d.1 >>= (λ (a : List ℕ). fixed_time_at a >>= (λ (t : Parts). past_byte 32 t.1 >>= (λ (b : List ℕ). signed_at b >>= (λ (z : Zone × List ℕ). if_ended z.1 (stamped d.0 t.0 z.0))))))) (date_back s.year s.month s.day (32 ∷ e2) n y d)
    ∙ ap (λ (o : Option Parts). o >>= (λ (t : Parts). past_byte 32 t.1 >>= (λ (b : List ℕ). signed_at b >>= (λ (z : Zone × List ℕ). if_ended z.1 (stamped date t.0 z.0))))) (time_back s.hour s.minute s.second (32 ∷ e3) hh mm ss)
    ∙ ap (λ (o : Option (Zone × List ℕ)). o >>= (λ (z : Zone × List ℕ). if_ended z.1 (stamped date time z.0))) (offset_back w s.zone.hours s.zone.minutes zh zm)
    ∙ ap (λ (b : Bool). cond b (Some s) None) h
