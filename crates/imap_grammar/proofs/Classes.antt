-- All bytes of a class, and how many there are at the front.
use Rattle.std.proofs.Common.{◌≡◌, ℕ, suc, ◌+◌, Bool, true, false, cond, List, [], ◌∷◌, length, refl, arith}
use Rattle.std.specs.Prelude.{◌==◌, ◌&&◌}
use Rattle.std.specs.List.{list_all, prefix_len}

one_more : (b a : Bool) (n m : ℕ) → a ≡ (n == m) → (b && a) ≡ (cond b (1 + n) 0 == suc m)
one_more true a n m h = grind arith
one_more false a n m h = grind arith

pub all_is : (p : ℕ → Bool) (xs : List ℕ) → list_all p xs ≡ (prefix_len p xs == length xs)
all_is p [] = refl
all_is p (x ∷ xs) = one_more (p x) (list_all p xs) (prefix_len p xs) (length xs) (all_is p xs)
