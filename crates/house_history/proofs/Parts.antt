-- Lists that a test or a function makes of a longer one.
use Rattle.std.proofs.Common.{◌≡◌, ℕ, ◌<◌, ◌≤◌, ◌==◌, ◌||◌, Bool, true, false, List, [], ◌∷◌, ◌++◌, zero, suc, length, Option, Some, None, filter, AllPairs, Contains, slice_index_or, inl, inr, ◌⊎◌, sym, refl, ap, ◌∙◌, subst, arith}
use Rattle.std.specs.List.{filter_map, cons_option}
use mathlib.Core.Bool.{cond, false≢true}
use mathlib.Core.List.{IsPrefix}
use Rattle.std.proofs.lemmas.List.{append-nil}
use Rattle.std.proofs.lemmas.List.Elements.{filter_map-append, Contains-append_left}
use Rattle.std.proofs.lemmas.Bool.{cases_lt}
use Rattle.std.proofs.lemmas.Bool.Decides.{nat_tests}

module _ {X Y : Type 0} (f : X → Option Y) where
  at_one : (g : X → Bool) (x : X) (xs : List X) (b : Bool) → (b ≡ false → f x ≡ None) → filter_map f (filter g xs) ≡ filter_map f xs
      → filter_map f (cond b (x ∷ filter g xs) (filter g xs)) ≡ cons_option (f x) (filter_map f xs)
  at_one g x xs true unless ih = ap (cons_option (f x)) ih
  at_one g x xs false unless ih = ih ∙ sym (ap (λ (o : Option Y). cons_option o (filter_map f xs)) (unless refl))

  -- what a test keeps has all that f gives something of
  pub of_part : (g : X → Bool) → ((x : X) → g x ≡ false → f x ≡ None) → (xs : List X) → filter_map f (filter g xs) ≡ filter_map f xs
  of_part g unless [] = refl
  of_part g unless (x ∷ xs) = at_one g x xs (g x) (unless x) (of_part g unless xs)

  pub push_some : (xs : List X) (e : X) (y : Y) → f e ≡ Some y → filter_map f (xs ++ e ∷ []) ≡ filter_map f xs ++ y ∷ []
  push_some xs e y is = filter_map-append f xs (e ∷ []) ∙ ap (λ (o : Option Y). filter_map f xs ++ cons_option o []) is

  pub push_none : (xs : List X) (e : X) → f e ≡ None → filter_map f (xs ++ e ∷ []) ≡ filter_map f xs
  push_none xs e is = filter_map-append f xs (e ∷ []) ∙ (ap (λ (o : Option Y). filter_map f xs ++ cons_option o []) is ∙ append-nil (filter_map f xs))

  -- what was there is there
  pub still : (xs ys : List X) (y : Y) → IsPrefix xs ys → Contains (filter_map f xs) y → Contains (filter_map f ys) y
  still xs ys y pre has = subst (λ (l : List Y). Contains l y) (sym (filter_map-append f xs pre.0) ∙ ap (filter_map f) pre.1) (Contains-append_left (filter_map f xs) (filter_map f pre.0) y has)

behind : {Y : Type 0} (o : Option Y) (ys : List Y) (y : Y) → Contains ys y → Contains (cons_option o ys) y
behind None ys y has = has
behind (Some z) ys y has = (suc has.0, (let l : has.0 < length ys = has.1 in let r : suc has.0 < suc (length ys) = omega arith in r), has.2)

-- what f gives of an element is there
pub given_of : {X Y : Type 0} (f : X → Option Y) (xs : List X) (k : ℕ) (x : X) (y : Y) → k < length xs → slice_index_or xs k x ≡ x → f x ≡ Some y → Contains (filter_map f xs) y
given_of f [] k x y l at is = absurd (omega arith)
given_of f (z ∷ xs) zero x y l at is = subst (λ (o : Option _). Contains (cons_option o (filter_map f xs)) y) (sym (ap f at ∙ is)) (0, (omega arith), refl)
given_of f (z ∷ xs) (suc k) x y l at is = behind (f z) (filter_map f xs) y (given_of f xs k x y (omega arith) at is)

pub default_any : {X : Type 0} (xs : List X) (k : ℕ) (c d : X) → k < length xs → slice_index_or xs k c ≡ slice_index_or xs k d
default_any [] k c d l = absurd (omega arith)
default_any (x ∷ xs) zero c d l = refl
default_any (x ∷ xs) (suc k) c d l = default_any xs k c d (omega arith)

alone_back : {X : Type 0} (R : X → X → Type 0) (xs : List X) (x y : X) → AllPairs R xs → (a b : ℕ) → a < length xs → b < length xs → slice_index_or xs a x ≡ x → slice_index_or xs b y ≡ y
    → (R y x → ⊥) → b ≤ a → (b < a) ⊎ (a ≤ b) → x ≡ y
alone_back {X = X} R xs x y pairs a b la lb ax by' never le (inl less) = absurd (never (subst (λ (t : X × X). R t.0 t.1) (λ i. (by' i, (default_any xs a y x la ∙ ax) i)) (pairs b a y less la)))
alone_back R xs x y pairs a b la lb ax by' never le (inr le') = let same : a ≡ b = omega arith in sym ax ∙ (default_any xs a x y la ∙ (ap (λ (k : ℕ). slice_index_or xs k y) same ∙ by'))

-- of a list in which each two differ so, two that don't are one
pub alone : {X : Type 0} (R : X → X → Type 0) (xs : List X) (x y : X) → AllPairs R xs → (a b : ℕ) → a < length xs → b < length xs → slice_index_or xs a x ≡ x → slice_index_or xs b y ≡ y
    → (R x y → ⊥) → (R y x → ⊥) → (a < b) ⊎ (b ≤ a) → x ≡ y
alone {X = X} R xs x y pairs a b la lb ax by' never never' (inl less) = absurd (never (subst (λ (t : X × X). R t.0 t.1) (λ i. (ax i, (default_any xs b x y lb ∙ by') i)) (pairs a b x less lb)))
alone R xs x y pairs a b la lb ax by' never never' (inr least) = alone_back R xs x y pairs a b la lb ax by' never' least (cases_lt b a)

pub there : {E : Type 0} (a b : List E) (e : E) → IsPrefix a b → Contains a e → Contains b e
there {E = E} a b e p has = subst (λ (l : List E). Contains l e) p.1 (Contains-append_left a p.0 e has)

-- ---- tests

pub flip : (a b : ℕ) → (a == b) ≡ false → (b == a) ≡ false
flip a b e = grind (arith, nat_tests)

pub same : (p q : ℕ) → (p == q) ≡ true → p ≡ q
same p q e = grind (arith, nat_tests)

pub is_same : (a b : ℕ) → a ≡ b → (a == b) ≡ true
is_same a b e = grind (arith, nat_tests)

pub itself : (p : ℕ) → (p == p) ≡ true
itself p = grind (arith, nat_tests)

pub or_left : (a b : Bool) → (a || b) ≡ false → a ≡ false
or_left true b e = absurd (false≢true (sym e))
or_left false b e = refl

pub or_right : (a b : Bool) → (a || b) ≡ false → b ≡ false
or_right true b e = absurd (false≢true (sym e))
or_right false b e = e

pub or_first : (a b : Bool) → a ≡ true → (a || b) ≡ true
or_first true b e = refl
or_first false b e = absurd (false≢true e)

pub or_second : (a b : Bool) → b ≡ true → (a || b) ≡ true
or_second true b e = refl
or_second false b e = e

pub or_cases : (a b : Bool) → (a || b) ≡ true → (a ≡ true) ⊎ (b ≡ true)
or_cases true b e = inl refl
or_cases false b e = inr e

-- where f keeps what it gives
came_here : {X : Type 0} (f : X → Option X) (x : X) (xs : List X) (y z : X) → x ≡ z → (Contains (filter_map f xs) y → Contains xs y) → (k : ℕ) → k < suc (length (filter_map f xs)) → slice_index_or (z ∷ filter_map f xs) k y ≡ y → Contains (x ∷ xs) y
came_here f x xs y z is ih zero l at = (0, omega arith, is ∙ at)
came_here f x xs y z is ih (suc k) l at = let r = ih (k, omega arith, at) in (suc r.0, (let m : r.0 < length xs = r.1 in let n : suc r.0 < suc (length xs) = omega arith in n), r.2)

came_at : {X : Type 0} (f : X → Option X) (x : X) (xs : List X) (y : X) (o : Option X) → f x ≡ o → ((z : X) → f x ≡ Some z → x ≡ z) → (Contains (filter_map f xs) y → Contains xs y) → Contains (cons_option o (filter_map f xs)) y → Contains (x ∷ xs) y
came_at f x xs y None is keeps ih has = let r = ih has in (suc r.0, (let l : r.0 < length xs = r.1 in let m : suc r.0 < suc (length xs) = omega arith in m), r.2)
came_at f x xs y (Some z) is keeps ih has = came_here f x xs y z (keeps z is) ih has.0 has.1 has.2

pub came_from : {X : Type 0} (f : X → Option X) → ((x z : X) → f x ≡ Some z → x ≡ z) → (xs : List X) (y : X) → Contains (filter_map f xs) y → Contains xs y
came_from f keeps [] y has = absurd (let l = has.1 in omega (arith, l))
came_from f keeps (x ∷ xs) y has = came_at f x xs y (f x) refl (keeps x) (came_from f keeps xs y) has
