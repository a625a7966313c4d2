-- What the text of a date is made of, for the crates that put it into their answers: digits, letters, `-`, `+` and
-- `:`, and a space only between its three parts. The time begins with a digit.
use Rattle.std.proofs.Common.{◌≡◌, ℕ, zero, suc, ◌/◌, ◌%◌, ◌<◌, ◌≤◌, Bool, true, false, ◌==◌, List, [], ◌∷◌, ◌++◌, refl, ap, ◌∙◌, arith}
use Rattle.std.specs.Prelude.{◌||◌, ◌&&◌, codes, Option, Some, None}
use Rattle.std.specs.List.{list_all}
use Rattle.std.proofs.lemmas.Bool.Decides.{nat_tests}
use Rattle.mail_date.specs.declared.stamp.Stamp.{Stamp}
use Rattle.mail_date.specs.Bytes.{is_digit, is_letter}
use Rattle.mail_date.specs.Dates.{month_names, is_date}
use Rattle.mail_date.specs.Internal.{digit, two_digits, four_digits, name_at, sign, date_text, time_text, zone_text}
use Rattle.mail_date.specs.Fields.{date_or_none, date_part, message_date, received_body, received_date}
use Rattle.mail_date.specs.Reading.{◌>>=◌, date_time}
use Rattle.mail_date.proofs.Back.{digit_is}
use Rattle.mail_date.proofs.Sound.{date_sound}

-- a digit, a letter, `-`, `+` or `:`
abbrev pub is_date_byte : ℕ → Bool
is_date_byte b = is_digit b || is_letter b || (b == 45) || (b == 43) || (b == 58)

digit_plain : (n : ℕ) → n < 10 → is_date_byte (digit n) ≡ true
digit_plain n h = ap (λ (t : Bool). t || is_letter (digit n) || (digit n == 45) || (digit n == 43) || (digit n == 58)) (digit_is n h)

two_plain : (n : ℕ) (rest : List ℕ) → n ≤ 99 → list_all is_date_byte (two_digits n ++ rest) ≡ list_all is_date_byte rest
two_plain n rest h =
    ap (λ (t : Bool). t && (is_date_byte (digit (n % 10)) && list_all is_date_byte rest)) (digit_plain (n / 10) (omega (arith, h)))
    ∙ ap (λ (t : Bool). t && list_all is_date_byte rest) (digit_plain (n % 10) (omega arith))

four_plain : (n : ℕ) → n ≤ 9999 → list_all is_date_byte (four_digits n) ≡ true
four_plain n h = two_plain (n / 100) (two_digits (n % 100)) (omega (arith, h)) ∙ two_plain (n % 100) [] (omega arith)

month_plain : (m : ℕ) (rest : List ℕ) → 1 ≤ m → m ≤ 12 → list_all is_date_byte (name_at m month_names ++ codes "-" ++ rest) ≡ list_all is_date_byte rest
month_plain zero rest l h = absurd (omega (arith, l))
month_plain (suc zero) rest l h = refl
month_plain (suc (suc zero)) rest l h = refl
month_plain (suc (suc (suc zero))) rest l h = refl
month_plain (suc (suc (suc (suc zero)))) rest l h = refl
month_plain (suc (suc (suc (suc (suc zero))))) rest l h = refl
month_plain (suc (suc (suc (suc (suc (suc zero)))))) rest l h = refl
month_plain (suc (suc (suc (suc (suc (suc (suc zero))))))) rest l h = refl
month_plain (suc (suc (suc (suc (suc (suc (suc (suc zero)))))))) rest l h = refl
month_plain (suc (suc (suc (suc (suc (suc (suc (suc (suc zero))))))))) rest l h = refl
month_plain (suc (suc (suc (suc (suc (suc (suc (suc (suc (suc zero)))))))))) rest l h = refl
month_plain (suc (suc (suc (suc (suc (suc (suc (suc (suc (suc (suc zero))))))))))) rest l h = refl
month_plain (suc (suc (suc (suc (suc (suc (suc (suc (suc (suc (suc (suc zero)))))))))))) rest l h = refl
month_plain (suc (suc (suc (suc (suc (suc (suc (suc (suc (suc (suc (suc (suc n))))))))))))) rest l h = absurd (omega (arith, h))

sign_plain : (is_west : Bool) (hours minutes : List ℕ) → list_all is_date_byte (sign is_west ++ hours ++ minutes) ≡ list_all is_date_byte (hours ++ minutes)
sign_plain true hours minutes = refl
sign_plain false hours minutes = refl

pub date_plain : (s : Stamp) → is_date s ≡ true → list_all is_date_byte (date_text s) ≡ true
date_plain s h =
    let low : 1 ≤ s.month = grind (arith, nat_tests) in
    let high : s.month ≤ 12 = grind (arith, nat_tests) in
    let y : s.year ≤ 9999 = grind (arith, nat_tests) in
    let d : s.day ≤ 99 = grind (arith, nat_tests) in
    two_plain s.day (codes "-" ++ name_at s.month month_names ++ codes "-" ++ four_digits s.year) d
    ∙ month_plain s.month (four_digits s.year) low high
    ∙ four_plain s.year y

pub time_plain : (s : Stamp) → is_date s ≡ true → list_all is_date_byte (time_text s) ≡ true
time_plain s h =
    let hour : s.hour ≤ 99 = grind (arith, nat_tests) in
    let minute : s.minute ≤ 99 = grind (arith, nat_tests) in
    let second : s.second ≤ 99 = grind (arith, nat_tests) in
    two_plain s.hour (codes ":" ++ two_digits s.minute ++ codes ":" ++ two_digits s.second) hour
    ∙ two_plain s.minute (codes ":" ++ two_digits s.second) minute
    ∙ two_plain s.second [] second

pub zone_plain : (s : Stamp) → is_date s ≡ true → list_all is_date_byte (zone_text s) ≡ true
zone_plain s h =
    let hours : s.zone.hours ≤ 99 = grind (arith, nat_tests) in
    let minutes : s.zone.minutes ≤ 99 = grind (arith, nat_tests) in
    sign_plain s.zone.is_west (two_digits s.zone.hours) (two_digits s.zone.minutes)
    ∙ two_plain s.zone.hours (two_digits s.zone.minutes) hours
    ∙ two_plain s.zone.minutes [] minutes

pub time_digit_first : (s : Stamp) → is_date s ≡ true → (d : ℕ) × (rest : List ℕ) × (time_text s ≡ d ∷ rest) × (is_digit d ≡ true)
time_digit_first s h =
    let hour : s.hour ≤ 99 = grind (arith, nat_tests) in
    (digit (s.hour / 10), digit (s.hour % 10) ∷ (codes ":" ++ two_digits s.minute ++ codes ":" ++ two_digits s.second), refl, digit_is (s.hour / 10) (omega (arith, hour)))

-- ---- each message has a date

some_dated : (part : List ℕ) (found : Option Stamp) → date_time part ≡ found → is_date (date_or_none found) ≡ true
some_dated part None e = refl
some_dated part (Some s) e = (date_sound part s e).1

part_dated : (part : Option (List ℕ)) → is_date (date_or_none (part >>= date_time)) ≡ true
part_dated None = refl
part_dated (Some part) = some_dated part (date_time part) refl

pub message_dated : (text : List ℕ) → is_date (message_date text) ≡ true
unfolding message_date received_date
message_dated text = part_dated (received_body true text >>= date_part)
