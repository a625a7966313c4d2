-- What is chosen of rising UIDs rises.
use Rattle.std.proofs.Common.{◌≡◌, ℕ, zero, suc, ◌+◌, ◌-◌, ◌<◌, ◌≤◌, Bool, true, false, cond, List, [], ◌∷◌, length, map, get_or, refl, ap, arith, sym, subst}
use Rattle.std.specs.List.Sorted.{IsNonDecreasing, IsStrictlyIncreasing}
use Rattle.std.proofs.lemmas.List.{get_or_default}
use Rattle.imap_grammar.specs.Sets.{is_named, at_positions, named_at}
use Rattle.imap_grammar.specs.declared.set.SeqRange.{SeqRange}
use Rattle.imap_grammar.specs.declared.view.Named.{Named}

-- each number is above the one before, and the first is not below this
abbrev pub RisesFrom : ℕ → List ℕ → Type 0
RisesFrom a [] = Unit {0}
RisesFrom a (x ∷ xs) = (a ≤ x) × RisesFrom (suc x) xs

lower : (a b : ℕ) (xs : List ℕ) → a ≤ b → RisesFrom b xs → RisesFrom a xs
lower a b [] le h = tt
lower a b (x ∷ xs) le h = (omega (arith, h.0), h.1)

pub rises_behind : (x : ℕ) (xs : List ℕ) → IsStrictlyIncreasing (x ∷ xs) → RisesFrom (suc x) xs
rises_behind x [] h = tt
rises_behind x (y ∷ ys) h =
    let first : x < y = h 0 (omega arith) in
    (omega arith, rises_behind y ys (λ k within. let e : suc k + 1 ≡ suc (k + 1) = omega arith in subst (λ n. get_or (y ∷ ys) k 0 < get_or (x ∷ y ∷ ys) n 0) e (h (suc k) (omega arith))))

rises : (xs : List ℕ) → IsStrictlyIncreasing xs → RisesFrom 0 xs
rises [] h = tt
rises (x ∷ xs) h = (omega arith, rises_behind x xs h)

increases : (a : ℕ) (xs : List ℕ) → RisesFrom a xs → IsStrictlyIncreasing xs
increases a [] h = λ k within. absurd (omega arith)
increases a (x ∷ []) h = λ k within. absurd (omega arith)
increases a (x ∷ y ∷ ys) h = at (increases (suc x) (y ∷ ys) h.1)
  where
    at : IsStrictlyIncreasing (y ∷ ys) → IsStrictlyIncreasing (x ∷ y ∷ ys)
    at rest zero within = omega (arith, h.1.0)
    at rest (suc k) within =
        let e : suc (k + 1) ≡ suc k + 1 = omega arith in
        subst (λ n. get_or (y ∷ ys) k 0 < get_or (x ∷ y ∷ ys) n 0) e (rest k (omega arith))

kept : (t : Bool) (a x : ℕ) (xs ys : List ℕ) → a ≤ x → RisesFrom (suc x) ys → RisesFrom a (cond t (x ∷ ys) ys)
kept true a x xs ys le h = (le, h)
kept false a x xs ys le h = lower a (suc x) ys (omega arith) h

positions_rise : (test : ℕ → Bool) (position a : ℕ) (view : List ℕ) → RisesFrom a view → RisesFrom a (at_positions test position view)
positions_rise test position a [] h = tt
positions_rise test position a (x ∷ xs) h =
    kept (test position) a x xs (at_positions test (position + 1) xs) h.0 (positions_rise test (position + 1) (suc x) xs h.1)

pub named_rise : (set : List SeqRange) (view uids : List ℕ) → uids ≡ at_positions (is_named set (length view)) 1 view → IsStrictlyIncreasing view → IsStrictlyIncreasing uids
named_rise set view uids e h =
    subst IsStrictlyIncreasing (sym e) (increases 0 (at_positions (is_named set (length view)) 1 view) (positions_rise (is_named set (length view)) 1 0 view (rises view h)))

-- messages at their positions have the UIDs that they were found by
pub uids_named : (view uids : List ℕ) → map (λ (m : Named). m.uid) (map (named_at view) uids) ≡ uids
uids_named view [] = refl
uids_named view (uid ∷ uids) = ap (λ (l : List ℕ). uid ∷ l) (uids_named view uids)

-- ---- what rises doesn't fall

some_later : (xs : List ℕ) → IsStrictlyIncreasing xs → (i n : ℕ) → i + n < length xs → get_or xs i 0 ≤ get_or xs (i + n) 0
some_later xs h i zero l = let e : i + 0 ≡ i = omega arith in rw e (omega arith)
some_later xs h i (suc n) l =
    let e : i + n + 1 ≡ i + suc n = omega arith in
    let last : get_or xs (i + n) 0 < get_or xs (i + suc n) 0 = subst (λ (j : ℕ). get_or xs (i + n) 0 < get_or xs j 0) e (h (i + n) (omega (arith, l))) in
    omega (arith, last, some_later xs h i n (omega (arith, l)))

pub never_falls : (xs : List ℕ) → IsStrictlyIncreasing xs → IsNonDecreasing xs
never_falls xs h i j d le within =
    let e : i + (j - i) ≡ j = omega (arith, le) in
    let later : get_or xs i 0 ≤ get_or xs j 0 = subst (λ (k : ℕ). get_or xs i 0 ≤ get_or xs k 0) e (some_later xs h i (j - i) (omega (arith, le, within))) in
    omega (arith, get_or_default xs i d 0 (omega (arith, le, within)), get_or_default xs j d 0 within, later)
