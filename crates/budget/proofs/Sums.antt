-- Sums of what seats hold, as a step changes them.
use Rattle.std.proofs.Common.{arith, ◌≡◌, ℕ, zero, suc, ◌+◌, ◌≤◌, List, [], ◌∷◌, ◌++◌, refl, sym, ap, subst, slice_set, All}
use Rattle.std.proofs.lemmas.List.Elements.{All-cons, All-head, All-tail, All-nil}
use mathlib.Core.Option.{Option, none, some}
use lib.ListN.{get_elem?}
use Rattle.budget.specs.declared.counting.Stay.{Stay}
use Rattle.budget.specs.Counting.{held, charged, newcomer}

pub held_end : (xs : List Stay) (limit : ℕ) → held (xs ++ newcomer limit ∷ []) ≡ held xs
held_end [] limit = refl
held_end (x ∷ xs) limit = ap (λ (n : ℕ). (x.charged + x.refused) + n) (held_end xs limit)

pub charged_end : (xs : List Stay) (limit : ℕ) → charged (xs ++ newcomer limit ∷ []) ≡ charged xs
charged_end [] limit = refl
charged_end (x ∷ xs) limit = ap (λ (n : ℕ). x.charged + n) (charged_end xs limit)

the_one : (x v : Stay) → ◌≡◌ {A = Option Stay} (some x) (some v) → x ≡ v
the_one x v is = cc

pub held_set : (xs : List Stay) (i : ℕ) (v w : Stay) → get_elem? xs i ≡ some v → held (slice_set xs i w) + (v.charged + v.refused) ≡ held xs + (w.charged + w.refused)
held_set [] i v w is = let e : ◌≡◌ {A = Option Stay} none (some v) = is in cc
held_set (x ∷ xs) zero v w is =
    let one = the_one x v is in
    let e : x.charged ≡ v.charged = ap (λ (s : Stay). s.charged) one in
    let f : x.refused ≡ v.refused = ap (λ (s : Stay). s.refused) one in
    omega (arith, e, f)
held_set (x ∷ xs) (suc i) v w is = let e = held_set xs i v w is in omega (arith, e)

pub charged_set : (xs : List Stay) (i : ℕ) (v w : Stay) → get_elem? xs i ≡ some v → charged (slice_set xs i w) + v.charged ≡ charged xs + w.charged
charged_set [] i v w is = let e : ◌≡◌ {A = Option Stay} none (some v) = is in cc
charged_set (x ∷ xs) zero v w is = let e : x.charged ≡ v.charged = ap (λ (s : Stay). s.charged) (the_one x v is) in omega (arith, e)
charged_set (x ∷ xs) (suc i) v w is = let e = charged_set xs i v w is in omega (arith, e)

pub charged_of_held : (xs : List Stay) → charged xs ≤ held xs
charged_of_held [] = omega arith
charged_of_held (x ∷ xs) = let e = charged_of_held xs in omega (arith, e)

-- What is so of all once one is another was so of all before, where it was of that one if it is of the other.
pub all_before : (P : Stay → Type 0) (xs : List Stay) (i : ℕ) (v w : Stay) → get_elem? xs i ≡ some v → (P w → P v) → All P (slice_set xs i w) → All P xs × P w
all_before P [] i v w is back all = let e : ◌≡◌ {A = Option Stay} none (some v) = is in absurd cc
all_before P (x ∷ xs) zero v w is back all =
    let of_w = All-head P w xs all in
    (All-cons P x xs (subst P (sym (the_one x v is)) (back of_w)) (All-tail P w xs all), of_w)
all_before P (x ∷ xs) (suc i) v w is back all =
    let more = all_before P xs i v w is back (All-tail P x (slice_set xs i w) all) in
    (All-cons P x xs (All-head P x (slice_set xs i w) all) more.0, more.1)

pub all_in_front : (P : Stay → Type 0) (xs : List Stay) (w : Stay) → All P (xs ++ w ∷ []) → All P xs
all_in_front P [] w all = All-nil P
all_in_front P (x ∷ xs) w all = All-cons P x xs (All-head P x (xs ++ w ∷ []) all) (all_in_front P xs w (All-tail P x (xs ++ w ∷ []) all))
