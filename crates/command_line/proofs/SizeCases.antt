-- Sizes and the limits that they give, by cases; that a size is so many bytes and no others; and texts that are no sizes.
use Rattle.std.proofs.Common.{◌≡◌, ◌∙◌, ◌*◌, ◌+◌, ◌++◌, ◌∷◌, ◌<◌, ◌==◌, ℕ, Bool, [], Option, Some, None, ap, arith, codes, if◌then◌else◌, length, lit<, nat_lt, refl, rules, subst, suc, sym, zero}
use Rattle.std.specs.Prelude.{Contains, option_map, unwrap_or}
use Rattle.std.specs.Char.{digit_value}
use Rattle.std.specs.Str.Parse.{AllDigits, IsNumeral, digits_value, digits_value_after}
use Rattle.std.proofs.lemmas.Bool.{lt-ltb}
use Rattle.clap.specs.Words.{Text}
use Rattle.command_line.specs.Asking.{GivesMemory, IsSize, limit_of, units}

-- ---- sizes

-- these digits, and this unit behind them
in_unit : (digits unit : Text) (each : ℕ) → IsNumeral 10 digits → Contains units (unit, each) → IsSize (digits ++ unit) (digits_value 10 digits * each)
in_unit digits unit each numeral known = record { digits = digits; unit = unit; each = each; spelled = refl; numeral = numeral; known = known; is = refl }

bytes : IsSize (codes "4096") 4096
bytes = in_unit (codes "4096") [] 1 (search rules) (0, lit< tt, refl)

most_bytes : IsSize (codes "18446744073709551615") 18446744073709551615
most_bytes = in_unit (codes "18446744073709551615") [] 1 (search rules) (0, lit< tt, refl)

zeros_before : IsSize (codes "007") 7
zeros_before = in_unit (codes "007") [] 1 (search rules) (0, lit< tt, refl)

kibibytes : IsSize (codes "64K") 65536
kibibytes = in_unit (codes "64") (codes "K") 1024 (search rules) (1, lit< tt, refl)

mebibytes : IsSize (codes "800M") 838860800
mebibytes = in_unit (codes "800") (codes "M") 1048576 (search rules) (2, lit< tt, refl)

gibibytes : IsSize (codes "2G") 2147483648
gibibytes = in_unit (codes "2") (codes "G") 1073741824 (search rules) (3, lit< tt, refl)

nothing : IsSize (codes "0K") 0
nothing = in_unit (codes "0") (codes "K") 1024 (search rules) (1, lit< tt, refl)

-- ---- limits

not_given : GivesMemory None None
not_given = refl

of_nothing : GivesMemory (Some (codes "0K")) None
of_nothing = (0, nothing, refl)

of_some : GivesMemory (Some (codes "2G")) (Some 2147483648)
of_some = (2147483648, gibibytes, refl)

-- ---- a size is read in one way

-- how many bytes one is of what stands behind digits
abbrev each_of : Text → Option ℕ
each_of [] = Some 1
each_of (b ∷ []) = if b == 75 then Some 1024 else if b == 77 then Some 1048576 else if b == 71 then Some 1073741824 else None
each_of (b ∷ c ∷ more) = None

-- from left to right: behind digits that say n
abbrev read_behind : ℕ → Text → Option ℕ
read_behind n [] = Some (n * 1)
read_behind n (b ∷ more) = if nat_lt (digit_value b) 10 then read_behind (n * 10 + digit_value b) more else option_map (λ (each : ℕ). n * each) (each_of (b ∷ more))

abbrev read : Text → Option ℕ
read [] = None
read (b ∷ more) = if nat_lt (digit_value b) 10 then read_behind (0 * 10 + digit_value b) more else None

unit_read : (n : ℕ) (unit : Text) (each : ℕ) → Contains units (unit, each) → read_behind n unit ≡ Some (n * each)
unit_read n unit each (zero, under, is) = subst (λ (p : Text × ℕ). read_behind n p.0 ≡ Some (n * p.1)) is refl
unit_read n unit each (suc zero, under, is) = subst (λ (p : Text × ℕ). read_behind n p.0 ≡ Some (n * p.1)) is refl
unit_read n unit each (suc (suc zero), under, is) = subst (λ (p : Text × ℕ). read_behind n p.0 ≡ Some (n * p.1)) is refl
unit_read n unit each (suc (suc (suc zero)), under, is) = subst (λ (p : Text × ℕ). read_behind n p.0 ≡ Some (n * p.1)) is refl
unit_read n unit each (suc (suc (suc (suc k))), under, is) = absurd (omega (arith, under))

is_digit : (b : ℕ) (X Y : Option ℕ) → digit_value b < 10 → (if nat_lt (digit_value b) 10 then X else Y) ≡ X
is_digit b X Y under = ap (λ (t : Bool). if t then X else Y) (lt-ltb (digit_value b) 10 under)

digits_read : (n : ℕ) (digits unit : Text) (each : ℕ) → AllDigits 10 digits → Contains units (unit, each) → read_behind n (digits ++ unit) ≡ Some (digits_value_after 10 n digits * each)
digits_read n [] unit each all known = unit_read n unit each known
digits_read n (b ∷ more) unit each all known = is_digit b _ _ all.0 ∙ digits_read (n * 10 + digit_value b) more unit each all.1 known

-- what is spelled is read
is_read : (text : Text) (size : ℕ) → IsSize text size → read text ≡ Some size
is_read text size s = ap read s.spelled ∙ by_case s.digits s.numeral.0 s.numeral.1 ∙ ap (λ (n : ℕ). Some n) (sym s.is) where
  by_case : (digits : Text) → 0 < length digits → AllDigits 10 digits → read (digits ++ s.unit) ≡ Some (digits_value 10 digits * s.each)
  by_case [] some all = absurd (omega (arith, some))
  by_case (b ∷ more) some all = is_digit b _ _ all.0 ∙ digits_read (0 * 10 + digit_value b) more s.unit s.each all.1 s.known

same_size : (text : Text) (m n : ℕ) → IsSize text m → IsSize text n → m ≡ n
same_size text m n one other = (let both : Some m ≡ Some n = sym (is_read text m one) ∙ is_read text n other in cc both)

-- ---- what is no size, nor its limit

none_read : (text : Text) (size : ℕ) → read text ≡ None → IsSize text size → ⊥
none_read text size none s = (let both : ◌≡◌ {A = Option ℕ} None (Some size) = sym none ∙ is_read text size s in cc both)

empty : (size : ℕ) → IsSize [] size → ⊥
empty size = none_read [] size refl

letter_alone : (size : ℕ) → IsSize (codes "K") size → ⊥
letter_alone size = none_read (codes "K") size refl

letter_first : (size : ℕ) → IsSize (codes "M1") size → ⊥
letter_first size = none_read (codes "M1") size refl

sign : (size : ℕ) → IsSize (codes "+5") size → ⊥
sign size = none_read (codes "+5") size refl

small_letter : (size : ℕ) → IsSize (codes "5k") size → ⊥
small_letter size = none_read (codes "5k") size refl

no_unit : (size : ℕ) → IsSize (codes "5T") size → ⊥
no_unit size = none_read (codes "5T") size refl

two_letters : (size : ℕ) → IsSize (codes "5KB") size → ⊥
two_letters size = none_read (codes "5KB") size refl

part : (size : ℕ) → IsSize (codes "5.5M") size → ⊥
part size = none_read (codes "5.5M") size refl

-- a kibibyte is no thousand
thousand : IsSize (codes "1K") 1000 → ⊥
thousand s = (let both : 1024 ≡ 1000 = ap (λ (o : Option ℕ). unwrap_or o 0) (is_read (codes "1K") 1000 s) in omega (arith, both))

-- a limit that is given isn't dropped, and no bytes are no limit
dropped : GivesMemory (Some (codes "1K")) None → ⊥
dropped (size, s, is) = (let both : Some 1024 ≡ Some size = is_read (codes "1K") size s in let none : ◌≡◌ {A = Option ℕ} None (limit_of size) = is in cc (both, none))

of_none : GivesMemory (Some (codes "0")) (Some 0) → ⊥
of_none (size, s, is) = cc (is_read (codes "0") size s, is)

not_asked_for : (size : ℕ) → GivesMemory None (Some size) → ⊥
not_asked_for size is = cc is
