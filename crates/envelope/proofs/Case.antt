-- Texts that differ in case at most.
use Rattle.std.proofs.Common.{◌≡◌, ℕ, ◌<◌, Bool, true, false, List, length, refl, ap, sym, ◌∙◌, arith, take, length-take}
use Rattle.std.specs.Prelude.{map}
use Rattle.std.specs.Bool.{Decides}
use Rattle.std.specs.Char.{to_ascii_lowercase}
use Rattle.std.specs.Str.{str_eq_ignore_ascii_case as is_same}
use Rattle.std.proofs.lemmas.Slice.Eq.{bytes_eq-Decides}
use Rattle.std.proofs.lemmas.List.{length-map}

pub is_same_decides : (x y : List ℕ) → Decides (is_same x y) (map to_ascii_lowercase x ≡ map to_ascii_lowercase y)
is_same_decides x y = bytes_eq-Decides (map to_ascii_lowercase x) (map to_ascii_lowercase y)

pub decides_false : {P : Type 0} (b : Bool) → Decides b P → (P → ⊥) → b ≡ false
decides_false true h n = absurd (n (h.0 refl))
decides_false false h n = refl

pub shorter_differs : (x y : List ℕ) → length y < length x → is_same (take (length x) y) x ≡ false
shorter_differs x y h =
    decides_false (is_same (take (length x) y) x) (is_same_decides (take (length x) y) x)
    (λ e.
    let k : length (take (length x) y) ≡ length x = sym (length-map (take (length x) y) to_ascii_lowercase) ∙ ap length e ∙ length-map x to_ascii_lowercase in
    omega (arith, length-take (length x) y))
