-- Where the first slash of a word stands.
use Rattle.std.proofs.Common.{◌≡◌, ℕ, suc, ◌+◌, Bool, true, false, cond, List, [], ◌∷◌, length, refl, ap, arith}
use Rattle.std.specs.Prelude.{nat_lt, not, ◌||◌, map}
use Rattle.std.specs.List.{list_any, prefix_len}
use Rattle.std.proofs.lemmas.Bool.Decides.{nat_tests}
use Rattle.envelope.specs.Bytes.{is_slash}

one_more : (b a : Bool) (n m : ℕ) → a ≡ nat_lt n m → (b || a) ≡ nat_lt (cond (not b) (1 + n) 0) (suc m)
one_more true a n m h = grind (arith, nat_tests)
one_more false a n m h = grind (arith, nat_tests)

pub any_is : (p : ℕ → Bool) (xs : List ℕ) → list_any p xs ≡ nat_lt (prefix_len (λ x. not (p x)) xs) (length xs)
any_is p [] = refl
any_is p (x ∷ xs) = one_more (p x) (list_any p xs) (prefix_len (λ x. not (p x)) xs) (length xs) (any_is p xs)

pub some_slash : (word : List ℕ) → list_any is_slash word ≡ nat_lt (prefix_len (λ b. not (is_slash b)) word) (length word)
some_slash word = any_is is_slash word

pub list_any-map : {A B : Type 0} (p : B → Bool) (f : A → B) (xs : List A) → list_any p (map f xs) ≡ list_any (λ x. p (f x)) xs
list_any-map p f [] = refl
list_any-map p f (x ∷ xs) = ap (λ b. p (f x) || b) (list_any-map p f xs)
