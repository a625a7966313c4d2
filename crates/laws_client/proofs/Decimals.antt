-- Numbers stand within lines, however long.
use Rattle.std.proofs.Common.{◌≡◌, ℕ, zero, suc, ◌+◌, Bool, true, false, List, [], ◌∷◌, refl, arith}
use Rattle.std.specs.Prelude.{decimal, nat_lt, ◌==◌, ◌/◌, ◌%◌, if◌then◌else◌}
use Rattle.std.specs.Fmt.{digits, digits_onto, digit_glyph}
use Rattle.std.specs.List.{list_all}
use Rattle.std.proofs.lemmas.Bool.{ne_eqb}
use Rattle.laws_client.specs.ListTurns.{is_inner}

glyph_inner : (d : ℕ) → is_inner (digit_glyph false d) ≡ true
glyph_inner d = by (nat_lt d 10)
  where
    by : (b : Bool) → is_inner (if b then 48 + d else 87 + d) ≡ true
    by true = rw (ne_eqb (48 + d) 10 (λ e. omega (arith, e))) refl
    by false = rw (ne_eqb (87 + d) 10 (λ e. omega (arith, e))) refl

digits_inner : (k n : ℕ) (acc : List ℕ) → list_all is_inner acc ≡ true → list_all is_inner (digits_onto k 10 false n acc) ≡ true
digits_inner zero n acc h = h
digits_inner (suc k) n acc h =
    let more : list_all is_inner (digit_glyph false (n % 10) ∷ acc) ≡ true = rw (glyph_inner (n % 10), h) refl in
    by (n / 10 == 0) more (digits_inner k (n / 10) (digit_glyph false (n % 10) ∷ acc) more)
  where
    by : (b : Bool) → list_all is_inner (digit_glyph false (n % 10) ∷ acc) ≡ true
        → list_all is_inner (digits_onto k 10 false (n / 10) (digit_glyph false (n % 10) ∷ acc)) ≡ true
        → list_all is_inner (if b then digit_glyph false (n % 10) ∷ acc else digits_onto k 10 false (n / 10) (digit_glyph false (n % 10) ∷ acc)) ≡ true
    by true last more = last
    by false last more = more

pub decimal_inner : (n : ℕ) → list_all is_inner (decimal n) ≡ true
unfolding digits
decimal_inner n = digits_inner 64 n [] refl
