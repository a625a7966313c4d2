-- The next changes, where they stand in two slices.
use Rattle.std.proofs.Common.{◌≡◌, ℕ, zero, suc, ◌+◌, ◌-◌, ◌≤◌, ◌⊎◌, List, [], ◌∷◌, ◌++◌, length, min, take, refl, sym, ap, ap₂, ◌∙◌, inl, inr, arith, length-append, length-drop}
use Rattle.std.proofs.lemmas.List.{take_all}
use Rattle.std.proofs.lemmas.Bool.{cases_lt}
use Rattle.change_ring.specs.declared.change.Change.{Change}
use Rattle.change_ring.specs.Log.{Window, changes_from, total}

take-append : (n : ℕ) (xs ys : List Change) → take n (xs ++ ys) ≡ take n xs ++ take (n - length xs) ys
take-append zero [] ys = refl
take-append (suc n) [] ys = let e : suc n ≡ suc n - 0 = omega arith in ap (λ (k : ℕ). take k ys) e
take-append zero (x ∷ xs) ys = let e : 0 ≡ 0 - suc (length xs) = omega arith in ap (λ (k : ℕ). take k ys) e
take-append (suc n) (x ∷ xs) ys =
    let e : n - length xs ≡ suc n - suc (length xs) = omega arith in
    ap (λ (zs : List Change). x ∷ zs) (take-append n xs ys ∙ ap (λ (k : ℕ). take n xs ++ take k ys) e)

-- a part of two lists in a row is a part of each
pub take-two : (m n : ℕ) (xs ys : List Change) → m ≤ length xs → (n ≡ 0) ⊎ (m ≡ length xs) → take (m + n) (xs ++ ys) ≡ take m xs ++ take n ys
take-two m n xs ys low how = elim how [
  | inl none ↦ let e : m + n ≡ m = omega arith in let f : m + n - length xs ≡ n = omega arith in take-append (m + n) xs ys ∙ ap₂ (λ (j k : ℕ). take j xs ++ take k ys) e f
  | inr all ↦ let f : m + n - length xs ≡ n = omega arith in take-append (m + n) xs ys ∙ ap₂ (λ (us vs : List Change). us ++ vs) (take_all (m + n) xs (omega arith) ∙ sym (take_all m xs (omega arith))) (ap (λ (k : ℕ). take k ys) f)
]

pub parts : (limit a b t m n : ℕ) → m ≡ min limit a → n ≡ min (limit - m) b → a + b ≡ t → (m + n ≡ min limit t) × (m ≤ a) × ((n ≡ 0) ⊎ (m ≡ a))
parts limit a b t m n e f g = (
  omega arith,
  omega arith,
  elim (cases_lt limit a) [
    | inl low ↦ inl (omega arith)
    | inr high ↦ inr (omega arith)
  ],
)

-- the next changes of two slices in a row
pub next_two : (first rest all : List Change) (m n : ℕ) → first ++ rest ≡ all → m ≤ length first → (n ≡ 0) ⊎ (m ≡ length first) → take m first ++ take n rest ≡ take (m + n) all
next_two first rest all m n both low how = sym (take-two m n first rest low how) ∙ ap (take (m + n)) both

-- how many changes two lent slices have
pub lent_length : (w : Window) (at : ℕ) (first rest : List Change) → w.base ≤ at → first ++ rest ≡ changes_from at w → length first + length rest ≡ total w - at
lent_length w at first rest low both = omega (arith, sym (length-append first rest) ∙ ap length both ∙ length-drop (at - w.base) w.changes)
