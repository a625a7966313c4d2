-- What the rules spell is read as IMAP's clients give it.
use Rattle.std.proofs.Common.{◌≡◌, ℕ, ◌-◌, Bool, true, false, cond, List, [], ◌∷◌, ◌++◌, refl, ap, sym, ◌∙◌, arith, inl, inr}
use Rattle.std.specs.Prelude.{Option, Some, None, ◌==◌, codes}
use Rattle.std.proofs.lemmas.Bool.Decides.{nat_tests}
use Rattle.mail_date.specs.declared.stamp.Stamp.{Stamp}
use Rattle.mail_date.specs.declared.stamp.Zone.{Zone}
use Rattle.mail_date.specs.Bytes.{is_digit}
use Rattle.mail_date.specs.Dates.{offset}
use Rattle.mail_date.specs.Grammar.{Digits, Exactly, Month, Sign, Joined}
use Rattle.mail_date.specs.Reading.{◌>>=◌, past_byte, one_at, two_at, month_at, signed_at, stamped, if_ended}
use Rattle.mail_date.specs.Given.{FixedDay, GivenDate}
use Rattle.mail_date.specs.InternalBack.{four_at, fixed_day_at, fixed_date_at, fixed_time_at, internal_date}
use Rattle.mail_date.proofs.BlanksAgain.{Starts}
use Rattle.mail_date.proofs.Again.{regroup, one_is, two_again, four_again, month_again, offset_again, digits_start, said, append_none}

abbrev Parts : Type 0
Parts = (ℕ × ℕ × ℕ) × List ℕ

digit_space : (b : ℕ) → is_digit b ≡ true → (b == 32) ≡ false
digit_space b h = grind (arith, nat_tests)

-- a digit is no space, so two digits are read as such
pub no_space : (text rest : List ℕ) → Starts is_digit text → fixed_day_at (text ++ rest) ≡ two_at (text ++ rest)
no_space [] rest h = absurd h
no_space (b ∷ bs) rest h = ap (λ (t : Bool). cond t (one_at (bs ++ rest)) (two_at (b ∷ bs ++ rest))) (digit_space b h)

one_again : (n : ℕ) (text rest : List ℕ) → Digits 1 n text → one_at (text ++ rest) ≡ Some (n, rest)
one_again n [] rest d = absurd (let e = d.0 in omega (arith, e))
one_again n (a ∷ []) rest d = one_is a rest d.1.0 ∙ said (a - 48) n rest (let v = d.2 in omega (arith, v))
one_again n (a ∷ b ∷ c) rest d = absurd (let e = d.0 in omega (arith, e))

day_again : (n : ℕ) (text rest : List ℕ) → FixedDay n text → fixed_day_at (text ++ rest) ≡ Some (n, rest)
day_again n text rest (inl d) = no_space text rest (digits_start 1 n text d) ∙ two_again n text rest d
day_again n text rest (inr j) =
    ap fixed_day_at (regroup text j.front j.back rest j.parts ∙ ap (λ (t : List ℕ). t ++ (j.back ++ rest)) j.first)
    ∙ one_again n j.back rest j.second

abbrev DateParts : ℕ → ℕ → ℕ → List ℕ → Type 0
DateParts y m d = Joined (FixedDay d) (Joined (Exactly (codes "-")) (Joined (Month m) (Joined (Exactly (codes "-")) (Digits 4 y))))

date_again : (y m d : ℕ) (text rest : List ℕ) → DateParts y m d text → fixed_date_at (text ++ rest) ≡ Some ((y, m, d), rest)
date_again y m d text rest j =
    let k = j.second in
    let l = k.second in
    let n = l.second in
    let e4 = n.back ++ rest in
    let e3 = 45 ∷ e4 in
    let e2 = l.front ++ e3 in
    let e1 = 45 ∷ e2 in
    let year : l.back ++ rest ≡ e3 = regroup l.back n.front n.back rest n.parts ∙ ap (λ (t : List ℕ). t ++ e4) n.first in
    let month : k.back ++ rest ≡ e2 = regroup k.back l.front l.back rest l.parts ∙ ap (λ (t : List ℕ). l.front ++ t) year in
    let dash : j.back ++ rest ≡ e1 = regroup j.back k.front k.back rest k.parts ∙ ap (λ (t : List ℕ). t ++ (k.back ++ rest)) k.first ∙ ap (λ (t : List ℕ). 45 ∷ t) month in
    ap fixed_date_at (regroup text j.front j.back rest j.parts ∙ ap (λ (t : List ℕ). j.front ++ t) dash)
    ∙ ap (λ (o : Option (ℕ × List ℕ)). o >>= (λ (d : ℕ × List ℕ). past_byte 45 d.1 >>= (λ (a : List ℕ). month_at a >>= (λ (m : ℕ × List ℕ). past_byte 45 m.1 >>= (λ (b : List ℕ). four_at b >>= (λ (y : ℕ × List ℕ). Some ((y.0, m.0, d.0), y.1))))))) (day_again d j.front e1 j.first)
    ∙ ap (λ (o : Option (ℕ × List ℕ)). o >>= (λ (m : ℕ × List ℕ). past_byte 45 m.1 >>= (λ (b : List ℕ). four_at b >>= (λ (y : ℕ × List ℕ). Some ((y.0, m.0, d), y.1))))) (month_again m l.front e3 l.first refl)
    ∙ ap (λ (o : Option (ℕ × List ℕ)). o >>= (λ (y : ℕ × List ℕ). Some ((y.0, m, d), y.1))) (four_again y n.back rest n.second)

abbrev TimeParts : ℕ → ℕ → ℕ → List ℕ → Type 0
TimeParts h m s = Joined (Digits 2 h) (Joined (Exactly (codes ":")) (Joined (Digits 2 m) (Joined (Exactly (codes ":")) (Digits 2 s))))

time_again : (h m s : ℕ) (text rest : List ℕ) → TimeParts h m s text → fixed_time_at (text ++ rest) ≡ Some ((h, m, s), rest)
time_again h m s text rest j =
    let k = j.second in
    let l = k.second in
    let n = l.second in
    let e4 = n.back ++ rest in
    let e3 = 58 ∷ e4 in
    let e2 = l.front ++ e3 in
    let e1 = 58 ∷ e2 in
    let second : l.back ++ rest ≡ e3 = regroup l.back n.front n.back rest n.parts ∙ ap (λ (t : List ℕ). t ++ e4) n.first in
    let minute : k.back ++ rest ≡ e2 = regroup k.back l.front l.back rest l.parts ∙ ap (λ (t : List ℕ). l.front ++ t) second in
    let colon : j.back ++ rest ≡ e1 = regroup j.back k.front k.back rest k.parts ∙ ap (λ (t : List ℕ). t ++ (k.back ++ rest)) k.first ∙ ap (λ (t : List ℕ). 58 ∷ t) minute in
    ap fixed_time_at (regroup text j.front j.back rest j.parts ∙ ap (λ (t : List ℕ). j.front ++ t) colon)
    ∙ ap (λ (o : Option (ℕ × List ℕ)). o >>= (λ (h : ℕ × List ℕ). past_byte 58 h.1 >>= (λ (a : List ℕ). two_at a >>= (λ (m : ℕ × List ℕ). past_byte 58 m.1 >>= (λ (b : List ℕ). two_at b >>= (λ (s : ℕ × List ℕ). Some ((h.0, m.0, s.0), s.1))))))) (two_again h j.front e1 j.first)
    ∙ ap (λ (o : Option (ℕ × List ℕ)). o >>= (λ (m : ℕ × List ℕ). past_byte 58 m.1 >>= (λ (b : List ℕ). two_at b >>= (λ (s : ℕ × List ℕ). Some ((h, m.0, s.0), s.1))))) (two_again m l.front e3 l.first)
    ∙ ap (λ (o : Option (ℕ × List ℕ)). o >>= (λ (s : ℕ × List ℕ). Some ((h, m, s.0), s.1))) (two_again s n.back rest n.second)

abbrev Signed : Bool → ℕ → ℕ → List ℕ → Type 0
Signed w h m = Joined (Sign w) (Joined (Digits 2 h) (Digits 2 m))

signed_again : (w : Bool) (h m : ℕ) (text rest : List ℕ) → Signed w h m text → signed_at (text ++ rest) ≡ Some (offset w h m, rest)
signed_again true h m text rest j =
    ap signed_at (regroup text j.front j.back rest j.parts ∙ ap (λ (t : List ℕ). t ++ (j.back ++ rest)) j.first)
    ∙ offset_again true h m j.back rest j.second
signed_again false h m text rest j =
    ap signed_at (regroup text j.front j.back rest j.parts ∙ ap (λ (t : List ℕ). t ++ (j.back ++ rest)) j.first)
    ∙ offset_again false h m j.back rest j.second

whole_is : (text : List ℕ) → internal_date text ≡ (fixed_date_at text >>= (λ (d : Parts). past_byte 32 d.1 >>= (λ (a : List ℕ). fixed_time_at a >>= (λ (t : Parts). past_byte 32 t.1 >>= (λ (b : List ℕ). signed_at b >>= (λ (z : Zone × List ℕ). if_ended z.1 (stamped d.0 t.0 z.0)))))))
unfolding internal_date
whole_is text = refl

pub given_again : (text : List ℕ) (s : Stamp) → GivenDate s text → internal_date text ≡ Some s
given_again text s h =
    let j = h.0 in
    let k = j.second in
    let l = k.second in
    let n = l.second in
    let e3 = 32 ∷ n.back in
    let e2 = l.front ++ e3 in
    let e1 = 32 ∷ e2 in
    let d : ℕ × ℕ × ℕ = (s.year, s.month, s.day) in
    let t : ℕ × ℕ × ℕ = (s.hour, s.minute, s.second) in
    let zone : l.back ≡ e3 = n.parts ∙ ap (λ (x : List ℕ). x ++ n.back) n.first in
    let time : k.back ≡ e2 = l.parts ∙ ap (λ (x : List ℕ). l.front ++ x) zone in
    let gap : j.back ≡ e1 = k.parts ∙ ap (λ (x : List ℕ). x ++ k.back) k.first ∙ ap (λ (x : List ℕ). 32 ∷ x) time in
    ap internal_date (j.parts ∙ ap (λ (x : List ℕ). j.front ++ x) gap)
    ∙ whole_is (j.front ++ e1)
    ∙ ap (λ (o : Option Parts). o >>= (λ (d : Parts). past_byte 32 d.1 >>= (λ (a : List ℕ). fixed_time_at a >>= (λ (t : Parts). past_byte 32 t.1 >>= (λ (b : List ℕ). signed_at b >>= (λ (z : Zone × List ℕ). if_ended z.1 (stamped d.0 t.0 z.0))))))) (date_again s.year s.month s.day j.front e1 j.first)
    ∙ ap (λ (o : Option Parts). o >>= (λ (t : Parts). past_byte 32 t.1 >>= (λ (b : List ℕ). signed_at b >>= (λ (z : Zone × List ℕ). if_ended z.1 (stamped d t.0 z.0))))) (time_again s.hour s.minute s.second l.front e3 l.first)
    ∙ ap (λ (x : List ℕ). signed_at x >>= (λ (z : Zone × List ℕ). if_ended z.1 (stamped d t z.0))) (sym (append_none n.back))
    ∙ ap (λ (o : Option (Zone × List ℕ)). o >>= (λ (z : Zone × List ℕ). if_ended z.1 (stamped d t z.0))) (signed_again s.zone.is_west s.zone.hours s.zone.minutes n.back [] n.second)
    ∙ ap (λ (b : Bool). cond b (Some s) None) h.1
