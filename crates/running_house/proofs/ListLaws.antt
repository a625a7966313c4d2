-- Positions in lists, and what stands in them.
use Rattle.std.proofs.Common.{◌≡◌, ◌⊎◌, inl, inr, ℕ, zero, suc, ◌<◌, List, [], ◌∷◌, ◌++◌, length, map, slice_index_or, refl, ap, subst, Contains, arith}
use Rattle.std.specs.Prelude.{All, flat_map, zip}
use Rattle.std.proofs.lemmas.List.Elements.{Contains-append_cases, All-cons, All-head, All-nil, All-tail}

pub below_or_at : (i n : ℕ) → i < suc n → (i < n) ⊎ (i ≡ n)
below_or_at zero zero under = inr refl
below_or_at zero (suc n) under = inl (omega arith)
below_or_at (suc i) zero under = absurd (omega (arith, under))
below_or_at (suc i) (suc n) under = elim (below_or_at i n (omega (arith, under))) [ inl h ↦ inl (omega (arith, h)) | inr e ↦ inr (ap suc e) ]

pub at_push : {A : Type 0} (xs : List A) (y d : A) (i : ℕ) → i ≡ length xs → slice_index_or (xs ++ y ∷ []) i d ≡ y
at_push [] y d zero e = refl
at_push [] y d (suc i) e = absurd (omega (arith, e))
at_push (x ∷ xs) y d zero e = absurd (omega (arith, e))
at_push (x ∷ xs) y d (suc i) e = at_push xs y d i (omega (arith, e))

pub at_before : {A : Type 0} (xs : List A) (y d : A) (i : ℕ) → i < length xs → slice_index_or (xs ++ y ∷ []) i d ≡ slice_index_or xs i d
at_before [] y d i under = absurd (omega (arith, under))
at_before (x ∷ xs) y d zero under = refl
at_before (x ∷ xs) y d (suc i) under = at_before xs y d i (omega (arith, under))

pub first_of : {A : Type 0} (x : A) (xs : List A) → Contains (x ∷ xs) x
first_of x xs = (0, omega arith, refl)

pub later_of : {A : Type 0} (x y : A) (xs : List A) → Contains xs x → Contains (y ∷ xs) x
later_of x y xs c = (suc c.0, (let u = c.1 in omega (arith, u)), c.2)

pub contains_cases : {A : Type 0} (x y : A) (xs : List A) → Contains (y ∷ xs) x → (y ≡ x) ⊎ Contains xs x
contains_cases x y xs (zero, under, is) = inl is
contains_cases x y xs (suc k, under, is) = inr (k, omega (arith, under), is)

pub contains_none : {A : Type 0} {x : A} → Contains [] x → ⊥
contains_none (k, under, is) = omega (arith, under)

pub mapped : {A B : Type 0} (f : A → B) (xs : List A) (x : A) → Contains xs x → Contains (map f xs) (f x)
mapped f [] x c = absurd (contains_none c)
mapped f (y ∷ ys) x c = elim (contains_cases x y ys c) [
  | inl e ↦ subst (λ z. Contains (f y ∷ map f ys) (f z)) e (first_of (f y) (map f ys))
  | inr h ↦ later_of (f x) (f y) (map f ys) (mapped f ys x h)
]

pub unmapped : {A B : Type 0} (f : A → B) (xs : List A) (y : B) → Contains (map f xs) y → (x : A) × Contains xs x × (f x ≡ y)
unmapped f [] y c = absurd (contains_none c)
unmapped f (x ∷ xs) y c = elim (contains_cases y (f x) (map f xs) c) [
  | inl e ↦ (x, first_of x xs, e)
  | inr h ↦ (let r = unmapped f xs y h in (r.0, later_of r.0 x xs r.1, r.2))
]

pub unflattened : {A B : Type 0} (f : A → List B) (xs : List A) (y : B) → Contains (flat_map f xs) y → (x : A) × Contains xs x × Contains (f x) y
unflattened f [] y c = absurd (contains_none c)
unflattened f (x ∷ xs) y c = elim (Contains-append_cases (f x) (flat_map f xs) y c) [
  | inl h ↦ (x, first_of x xs, h)
  | inr h ↦ (let r = unflattened f xs y h in (r.0, later_of r.0 x xs r.1, r.2))
]

pub zipped : {A B : Type 0} (xs : List A) (ys : List B) (x : A) (y : B) → Contains (zip xs ys) (x, y) → Contains xs x
zipped [] ys x y c = absurd (contains_none c)
zipped (a ∷ xs) [] x y c = absurd (contains_none c)
zipped (a ∷ xs) (b ∷ ys) x y c = elim (contains_cases (x, y) (a, b) (zip xs ys) c) [
  | inl e ↦ subst (λ z. Contains (a ∷ xs) z) (ap (λ p. p.0) e) (first_of a xs)
  | inr h ↦ later_of x a xs (zipped xs ys x y h)
]

-- of the first of two lists
pub all_front : {A : Type 0} (P : A → Type 0) (xs ys : List A) → All P (xs ++ ys) → All P xs
all_front P [] ys h = All-nil P
all_front P (x ∷ xs) ys h = All-cons P x xs (All-head P x (xs ++ ys) h) (all_front P xs ys (All-tail P x (xs ++ ys) h))
