-- How long a number is in print.
use Rattle.std.proofs.Common.{◌≡◌, ◌≤◌, ◌<◌, ◌^◌, ℕ, List, ◌++◌, length, arith, append_assoc}
use Rattle.std.specs.Prelude.{decimal}
use Rattle.std.proofs.lemmas.Fmt.{length-decimal-le}

pub length_decimal : (n : ℕ) → n < 2 ^ 64 → length (decimal n) ≤ 20
length_decimal n h = length-decimal-le 20 n (omega arith) (omega (arith, h)) h

-- the parts of a line, one after another
pub seven_parts : (out a b c d e f g : List ℕ) → ((((out ++ (a ++ b ++ c)) ++ d) ++ e) ++ f) ++ g ≡ out ++ (a ++ b ++ c ++ d ++ e ++ f ++ g)
seven_parts out a b c d e f g = simp append_assoc
