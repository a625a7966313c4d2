-- Positions in lists, and in lists that are made of lists.
use Rattle.std.proofs.Common.{◌≡◌, ◌⊎◌, inl, inr, ℕ, zero, suc, ◌<◌, Bool, true, false, cond, List, [], ◌∷◌, ◌++◌, length, map, slice_index_or, Option, None, Some, refl, ap, sym, subst, ◌∙◌, Contains, arith}
use Rattle.std.specs.Prelude.{All, flat_map, slice_get}
use Rattle.std.specs.List.{cons_option, filter, filter_map}
use Rattle.std.proofs.lemmas.Bool.{false≢true}
use Rattle.std.proofs.lemmas.List.Elements.{All-head, All-tail}

pub none_at : {A : Type 0} {x : A} → None ≡ Some x → ⊥
none_at e = cc

pub same_some : {A : Type 0} {x y : A} → Some x ≡ Some y → x ≡ y
same_some e = cc

-- ---- a position in a list

pub at_within : {A : Type 0} (xs : List A) (i : ℕ) (x : A) → slice_get xs i ≡ Some x → i < length xs
at_within [] i x e = absurd (none_at e)
at_within (y ∷ ys) zero x e = omega arith
at_within (y ∷ ys) (suc i) x e = let u : i < length ys = at_within ys i x e in omega (arith, u)

pub within_at : {A : Type 0} (xs : List A) (i : ℕ) → i < length xs → (x : A) × (slice_get xs i ≡ Some x)
within_at [] i u = absurd (omega (arith, u))
within_at (y ∷ ys) zero u = (y, refl)
within_at (y ∷ ys) (suc i) u = within_at ys i (omega (arith, u))

pub at_or : {A : Type 0} (xs : List A) (i : ℕ) (x d : A) → slice_get xs i ≡ Some x → slice_index_or xs i d ≡ x
at_or [] i x d e = absurd (none_at e)
at_or (y ∷ ys) zero x d e = same_some e
at_or (y ∷ ys) (suc i) x d e = at_or ys i x d e

pub at_contains : {A : Type 0} (xs : List A) (i : ℕ) (x : A) → slice_get xs i ≡ Some x → Contains xs x
at_contains xs i x e = (i, at_within xs i x e, at_or xs i x x e)

pub contains_at : {A : Type 0} (xs : List A) (x : A) → Contains xs x → (i : ℕ) × (slice_get xs i ≡ Some x)
contains_at xs x c =
    let r = within_at xs c.0 c.1 in
    let same : r.0 ≡ x = sym (at_or xs c.0 r.0 x r.1) ∙ c.2 in (c.0, r.1 ∙ ap Some same)

pub the_one : {A : Type 0} (x y : A) → Contains (x ∷ []) y → x ≡ y
the_one x y (zero, u, is) = is
the_one x y (suc k, u, is) = absurd (omega (arith, u))

pub at_map : {A B : Type 0} (f : A → B) (xs : List A) (i : ℕ) (x : A) → slice_get xs i ≡ Some x → slice_get (map f xs) i ≡ Some (f x)
at_map f [] i x e = absurd (none_at e)
at_map f (y ∷ ys) zero x e = ap (λ z. Some (f z)) (same_some e)
at_map f (y ∷ ys) (suc i) x e = at_map f ys i x e

pub at_unmap : {A B : Type 0} (f : A → B) (xs : List A) (i : ℕ) (y : B) → slice_get (map f xs) i ≡ Some y → (x : A) × (slice_get xs i ≡ Some x) × (f x ≡ y)
at_unmap f [] i y e = absurd (none_at e)
at_unmap f (z ∷ zs) zero y e = (z, refl, same_some e)
at_unmap f (z ∷ zs) (suc i) y e = at_unmap f zs i y e

pub at_left : {A : Type 0} (xs ys : List A) (i : ℕ) (x : A) → slice_get xs i ≡ Some x → slice_get (xs ++ ys) i ≡ Some x
at_left [] ys i x e = absurd (none_at e)
at_left (z ∷ zs) ys zero x e = e
at_left (z ∷ zs) ys (suc i) x e = at_left zs ys i x e

-- the position behind a list
abbrev pub past : {A : Type 0} → List A → ℕ → ℕ
past [] i = i
past (x ∷ xs) i = suc (past xs i)

pub at_right : {A : Type 0} (xs ys : List A) (i : ℕ) → slice_get (xs ++ ys) (past xs i) ≡ slice_get ys i
at_right [] ys i = refl
at_right (z ∷ zs) ys i = at_right zs ys i

pub at_cases : {A : Type 0} (xs ys : List A) (i : ℕ) (x : A) → slice_get (xs ++ ys) i ≡ Some x → (slice_get xs i ≡ Some x) ⊎ ((j : ℕ) × (i ≡ past xs j) × (slice_get ys j ≡ Some x))
at_cases [] ys i x e = inr (i, refl, e)
at_cases (z ∷ zs) ys zero x e = inl e
at_cases (z ∷ zs) ys (suc i) x e = elim (at_cases zs ys i x e) [ inl h ↦ inl h | inr h ↦ inr (h.0, ap suc h.1, h.2) ]

-- it goes by the length alone
past_same : {A B : Type 0} (xs : List A) (ys : List B) (i : ℕ) → length ys ≡ length xs → past ys i ≡ past xs i
past_same [] [] i e = refl
past_same [] (y ∷ ys) i e = absurd (omega (arith, e))
past_same (x ∷ xs) [] i e = absurd (omega (arith, e))
past_same (x ∷ xs) (y ∷ ys) i e = ap suc (past_same xs ys i (omega (arith, e)))

-- ---- in a list of lists, each with as many elements as the first of its kinds

-- the position of the i-th element of the k-th
abbrev pub position_of : {A B : Type 0} → (A → List B) → List A → ℕ → ℕ → ℕ
position_of f [] k i = i
position_of f (x ∷ xs) zero i = i
position_of f (x ∷ xs) (suc k) i = past (f x) (position_of f xs k i)

-- this kind has as many elements everywhere
abbrev pub AsMany : {A B C : Type 0} → (A → List B) → (A → List C) → A → Type 0
AsMany f g x = length (g x) ≡ length (f x)

pub at_position : {A B C : Type 0} (f : A → List B) (g : A → List C) (xs : List A) → All (AsMany f g) xs → (k : ℕ) (x : A) → slice_get xs k ≡ Some x
    → (i : ℕ) (y : C) → slice_get (g x) i ≡ Some y → slice_get (flat_map g xs) (position_of f xs k i) ≡ Some y
at_position f g [] all k x e i y h = absurd (none_at e)
at_position f g (z ∷ zs) all zero x e i y h = at_left (g z) (flat_map g zs) i y (subst (λ a. slice_get (g a) i ≡ Some y) (sym (same_some e)) h)
at_position f g (z ∷ zs) all (suc k) x e i y h =
    let n : ℕ = position_of f zs k i in
    ap (λ (m : ℕ). slice_get (flat_map g (z ∷ zs)) m) (sym (past_same (f z) (g z) n (All-head (AsMany f g) z zs all)))
    ∙ at_right (g z) (flat_map g zs) n ∙ at_position f g zs (All-tail (AsMany f g) z zs all) k x e i y h

pub record Position {A B : Type 0} (f : A → List B) (xs : List A) (p : ℕ) (y : B) : Type 0 where
  pub k : ℕ
  pub x : A
  pub i : ℕ
  pub one : slice_get xs k ≡ Some x
  pub within : slice_get (f x) i ≡ Some y
  pub is : p ≡ position_of f xs k i

pub position_from : {A B : Type 0} (f : A → List B) (xs : List A) (p : ℕ) (y : B) → slice_get (flat_map f xs) p ≡ Some y → Position f xs p y
position_from f [] p y e = absurd (none_at e)
position_from f (z ∷ zs) p y e = elim (at_cases (f z) (flat_map f zs) p y e) [
  | inl h ↦ record { k = 0; x = z; i = p; one = refl; within = h; is = refl }
  | inr h ↦ (
      let r = position_from f zs h.0 y h.2 in
      record { k = suc r.k; x = r.x; i = r.i; one = r.one; within = r.within; is = h.1 ∙ ap (past (f z)) r.is }
      )
]

-- ---- what a list makes

later_made : {B : Type 0} (o : Option B) (ys : List B) (j : ℕ) (y : B) → slice_get ys j ≡ Some y → (k : ℕ) × (slice_get (cons_option o ys) k ≡ Some y)
later_made None ys j y e = (j, e)
later_made (Some z) ys j y e = (suc j, e)

made_at : {A B : Type 0} (h : A → Option B) (xs : List A) (i : ℕ) (x : A) (y : B) → slice_get xs i ≡ Some x → h x ≡ Some y → (j : ℕ) × (slice_get (filter_map h xs) j ≡ Some y)
made_at h [] i x y s e = absurd (none_at s)
made_at {A} {B} h (z ∷ zs) zero x y s e = (0, ap (λ (o : Option B). slice_get (cons_option o (filter_map h zs)) 0) (ap h (same_some s) ∙ e))
made_at h (z ∷ zs) (suc i) x y s e = let r = made_at h zs i x y s e in later_made (h z) (filter_map h zs) r.0 y r.1

pub made : {A B : Type 0} (h : A → Option B) (xs : List A) (x : A) (y : B) → Contains xs x → h x ≡ Some y → Contains (filter_map h xs) y
made h xs x y c e = let p = contains_at xs x c in let r = made_at h xs p.0 x y p.1 e in at_contains (filter_map h xs) r.0 y r.1

pub unmade_at : {A B : Type 0} (h : A → Option B) (xs : List A) (j : ℕ) (y : B) → slice_get (filter_map h xs) j ≡ Some y → (x : A) × (i : ℕ) × (slice_get xs i ≡ Some x) × (h x ≡ Some y)
unmade_at h [] j y e = absurd (none_at e)
unmade_at {A} {B} h (z ∷ zs) j y e = by_case (λ k s. unmade_at h zs k y s) (h z) refl j e
  where
    by_case : ((k : ℕ) → slice_get (filter_map h zs) k ≡ Some y → (x : A) × (i : ℕ) × (slice_get zs i ≡ Some x) × (h x ≡ Some y))
        → (o : Option B) → h z ≡ o → (k : ℕ) → slice_get (cons_option o (filter_map h zs)) k ≡ Some y → (x : A) × (i : ℕ) × (slice_get (z ∷ zs) i ≡ Some x) × (h x ≡ Some y)
    by_case go None here k s = let r = go k s in (r.0, suc r.1, r.2, r.3)
    by_case go (Some v) here zero s = (z, 0, refl, here ∙ s)
    by_case go (Some v) here (suc k) s = let r = go k s in (r.0, suc r.1, r.2, r.3)

-- ---- what a test keeps

later_kept : {A : Type 0} (b : Bool) (z : A) (ys : List A) (j : ℕ) (y : A) → slice_get ys j ≡ Some y → (k : ℕ) × (slice_get (cond b (z ∷ ys) ys) k ≡ Some y)
later_kept true z ys j y e = (suc j, e)
later_kept false z ys j y e = (j, e)

kept_at : {A : Type 0} (f : A → Bool) (xs : List A) (i : ℕ) (x : A) → slice_get xs i ≡ Some x → f x ≡ true → (j : ℕ) × (slice_get (filter f xs) j ≡ Some x)
kept_at f [] i x s t = absurd (none_at s)
kept_at f (z ∷ zs) zero x s t = (0, ap (λ (b : Bool). slice_get (cond b (z ∷ filter f zs) (filter f zs)) 0) (ap f (same_some s) ∙ t) ∙ s)
kept_at f (z ∷ zs) (suc i) x s t = let r = kept_at f zs i x s t in later_kept (f z) z (filter f zs) r.0 x r.1

pub kept : {A : Type 0} (f : A → Bool) (xs : List A) (x : A) → Contains xs x → f x ≡ true → Contains (filter f xs) x
kept f xs x c t = let p = contains_at xs x c in let r = kept_at f xs p.0 x p.1 t in at_contains (filter f xs) r.0 x r.1

pub unkept_at : {A : Type 0} (f : A → Bool) (xs : List A) (j : ℕ) (x : A) → slice_get (filter f xs) j ≡ Some x → (i : ℕ) × (slice_get xs i ≡ Some x) × (f x ≡ true)
unkept_at f [] j x e = absurd (none_at e)
unkept_at {A} f (z ∷ zs) j x e = by_test (λ k s. unkept_at f zs k x s) (f z) refl j e
  where
    by_test : ((k : ℕ) → slice_get (filter f zs) k ≡ Some x → (i : ℕ) × (slice_get zs i ≡ Some x) × (f x ≡ true))
        → (b : Bool) → f z ≡ b → (k : ℕ) → slice_get (cond b (z ∷ filter f zs) (filter f zs)) k ≡ Some x → (i : ℕ) × (slice_get (z ∷ zs) i ≡ Some x) × (f x ≡ true)
    by_test go true here zero s = (0, s, ap f (sym (same_some s)) ∙ here)
    by_test go true here (suc k) s = let r = go k s in (suc r.0, r.1, r.2)
    by_test go false here k s = let r = go k s in (suc r.0, r.1, r.2)

pub unkept : {A : Type 0} (f : A → Bool) (xs : List A) (x : A) → Contains (filter f xs) x → Contains xs x × (f x ≡ true)
unkept f xs x c = let p = contains_at (filter f xs) x c in let r = unkept_at f xs p.0 x p.1 in (at_contains xs r.0 x r.1, r.2)

-- what stands before another stands before it among what is kept
pub record InOrder {A : Type 0} (xs : List A) (x y : A) : Type 0 where
  pub first : ℕ
  pub second : ℕ
  pub below : first < second
  pub at_first : slice_get xs first ≡ Some x
  pub at_second : slice_get xs second ≡ Some y

later_order : {A : Type 0} (b : Bool) (z : A) (ys : List A) (x y : A) → InOrder ys x y → InOrder (cond b (z ∷ ys) ys) x y
later_order true z ys x y h = record { first = suc h.first; second = suc h.second; below = (let u = h.below in omega (arith, u)); at_first = h.at_first; at_second = h.at_second }
later_order false z ys x y h = h

pub kept_order : {A : Type 0} (f : A → Bool) (xs : List A) (i j : ℕ) (x y : A) → slice_get xs i ≡ Some x → slice_get xs j ≡ Some y → f x ≡ true → f y ≡ true → i < j → InOrder (filter f xs) x y
kept_order f [] i j x y ex ey fx fy u = absurd (none_at ex)
kept_order f (z ∷ zs) i zero x y ex ey fx fy u = absurd (omega (arith, u))
kept_order {A} f (z ∷ zs) zero (suc j) x y ex ey fx fy u =
    let r = kept_at f zs j y ey fy in
    let test : f z ≡ true = ap f (same_some ex) ∙ fx in
    subst (λ (b : Bool). InOrder (cond b (z ∷ filter f zs) (filter f zs)) x y) (sym test) (record { first = 0; second = suc r.0; below = omega arith; at_first = ex; at_second = r.1 })
kept_order f (z ∷ zs) (suc i) (suc j) x y ex ey fx fy u = later_order (f z) z (filter f zs) x y (kept_order f zs i j x y ex ey fx fy (omega (arith, u)))

pub nothing_there : {A : Type 0} (xs : List A) → ((x : A) → Contains xs x → ⊥) → xs ≡ []
nothing_there [] h = refl
nothing_there (x ∷ xs) h = absurd (h x (0, omega arith, refl))

-- what one test keeps of what another keeps, where the second holds wherever the first does
pub kept_twice : {A : Type 0} (f g : A → Bool) (xs : List A) → ((x : A) → f x ≡ true → g x ≡ true) → filter f (filter g xs) ≡ filter f xs
kept_twice f g [] h = refl
kept_twice {A} f g (z ∷ zs) h = by_tests (kept_twice f g zs h) (f z) refl (g z) refl
  where
    by_tests : filter f (filter g zs) ≡ filter f zs → (b : Bool) → f z ≡ b → (c : Bool) → g z ≡ c → filter f (cond c (z ∷ filter g zs) (filter g zs)) ≡ cond b (z ∷ filter f zs) (filter f zs)
    by_tests go b here true there = ap (λ (x : Bool). cond x (z ∷ filter f (filter g zs)) (filter f (filter g zs))) here ∙ ap (λ (l : List A). cond b (z ∷ l) l) go
    by_tests go true here false there = absurd (false≢true (sym there ∙ h z here))
    by_tests go false here false there = go
