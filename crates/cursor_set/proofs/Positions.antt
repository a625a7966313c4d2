-- Lemmas on a message's position in a view whose UIDs rise.
use Rattle.std.proofs.Common.{◌≡◌, ℕ, zero, suc, ◌+◌, ◌-◌, ◌<◌, ◌≤◌, Bool, true, false, ◌==◌, List, [], ◌∷◌, ◌++◌, length, drop, get_or, Contains, ap, ◌∙◌, refl, subst, arith, eq-eqb, inl, inr, length-drop}
use Rattle.std.specs.Prelude.{remove, if◌then◌else◌, MatchResult, Result, Ok, Err}
use Rattle.std.specs.List.{AllByRecursion}
use Rattle.std.specs.Ordering.{nat_cmp}
use Rattle.std.specs.List.Sorted.{IsStrictlyIncreasing, IsBinarySearchResult}
use Rattle.std.proofs.lemmas.List.Sorted.{searched}
use Rattle.std.proofs.lemmas.List.{get_or-drop, get_or_default}
use Rattle.std.proofs.lemmas.Bool.{eqb-true, cases_lt}
use Rattle.std.proofs.lemmas.List.Kept.{AllPairs-from_increasing}
use Rattle.std.proofs.lemmas.List.Elements.{recursion_from_All}
use Rattle.change_ring.specs.Log.{without}
use Rattle.change_ring.specs.View.{position}

-- ---- rising lists, by cases on the list

abbrev pub Rises : List ℕ → Type 0
Rises [] = Unit {0}
Rises (x ∷ xs) = AllByRecursion (λ y. x < y) xs × Rises xs

pub Rises-from : (xs : List ℕ) → IsStrictlyIncreasing xs → Rises xs
Rises-from [] h = tt
Rises-from (x ∷ xs) h = (
  recursion_from_All (λ y. x < y) xs (λ k d l. AllPairs-from_increasing (x ∷ xs) h 0 (suc k) d (omega arith) (omega arith)),
  Rises-from xs (λ k l. let e : suc k + 1 ≡ suc (k + 1) = omega arith in subst (λ (j : ℕ). get_or (x ∷ xs) (suc k) 0 < get_or (x ∷ xs) j 0) e (h (suc k) (omega arith))),
)

pub Rises-to : (xs : List ℕ) → Rises xs → IsStrictlyIncreasing xs
Rises-to [] h k l = absurd (omega arith)
Rises-to (x ∷ []) h k l = absurd (omega arith)
Rises-to (x ∷ y ∷ ys) h zero l = h.0.0
Rises-to (x ∷ y ∷ ys) h (suc k) l = let e : suc (k + 1) ≡ suc k + 1 = omega arith in subst (λ (j : ℕ). get_or (x ∷ y ∷ ys) (suc k) 0 < get_or (x ∷ y ∷ ys) j 0) e (Rises-to (y ∷ ys) h.1 k (omega arith))

-- ---- without one UID

all_if : (P : ℕ → Type 0) (b : Bool) (xs ys zs : List ℕ) → AllByRecursion P (xs ++ zs) → AllByRecursion P (ys ++ zs) → AllByRecursion P ((if b then xs else ys) ++ zs)
all_if P true xs ys zs h k = h
all_if P false xs ys zs h k = k

all-without : (P : ℕ → Type 0) (uid : ℕ) (xs zs : List ℕ) → AllByRecursion P (xs ++ zs) → AllByRecursion P (without uid xs ++ zs)
all-without P uid [] zs h = h
all-without P uid (x ∷ xs) zs h = all_if P (x == uid) xs (x ∷ without uid xs) zs h.1 (h.0, all-without P uid xs zs h.1)

rises_if : (b : Bool) (xs ys zs : List ℕ) → Rises (xs ++ zs) → Rises (ys ++ zs) → Rises ((if b then xs else ys) ++ zs)
rises_if true xs ys zs h k = h
rises_if false xs ys zs h k = k

pub Rises-without : (uid : ℕ) (xs zs : List ℕ) → Rises (xs ++ zs) → Rises (without uid xs ++ zs)
Rises-without uid [] zs h = h
Rises-without uid (x ∷ xs) zs h = rises_if (x == uid) xs (x ∷ without uid xs) zs h.1 (all-without (λ y. x < y) uid xs zs h.0, Rises-without uid xs zs h.1)

-- the first part of a rising list
pub all-first : (P : ℕ → Type 0) (xs zs : List ℕ) → AllByRecursion P (xs ++ zs) → AllByRecursion P xs
all-first P [] zs h = tt
all-first P (x ∷ xs) zs h = (h.0, all-first P xs zs h.1)

pub Rises-first : (xs zs : List ℕ) → Rises (xs ++ zs) → Rises xs
Rises-first [] zs h = tt
Rises-first (x ∷ xs) zs h = (all-first (λ y. x < y) xs zs h.0, Rises-first xs zs h.1)

-- ---- positions

position_if : (b : Bool) (n : ℕ) → (b ≡ true → ⊥) → (if b then 1 else n) ≡ n
position_if true n f = absurd (f refl)
position_if false n f = refl

all_at : (x : ℕ) (xs : List ℕ) (k d : ℕ) → AllByRecursion (λ y. x < y) xs → k < length xs → x < get_or xs k d
all_at x [] k d h l = absurd (omega arith)
all_at x (y ∷ ys) zero d h l = h.0
all_at x (y ∷ ys) (suc k) d h l = all_at x ys k d h.1 (omega arith)

-- what stands at an index of a rising list has its position there
pub position_at : (uid : ℕ) (view : List ℕ) (k : ℕ) → Rises view → k < length view → get_or view k 0 ≡ uid → position uid view ≡ k + 1
position_at uid [] k h l e = absurd (omega arith)
position_at uid (u ∷ uids) zero h l e = rw (eq-eqb u uid e) refl
position_at uid (u ∷ uids) (suc k) h l e =
    let same_sum : k + 1 + 1 ≡ suc k + 1 = omega arith in
    let low : u < get_or uids k 0 = all_at u uids k 0 h.0 (omega arith) in
    position_if (u == uid) (position uid uids + 1) (λ b. let same : u ≡ uid = eqb-true u uid b in absurd (omega (arith, low, e, same)))
    ∙ ap (λ (n : ℕ). n + 1) (position_at uid uids k h.1 (omega arith) e) ∙ same_sum

pub position_pos : (uid : ℕ) (view : List ℕ) → 0 < position uid view
position_pos uid [] = omega arith
position_pos uid (u ∷ uids) = above_if (u == uid) (position uid uids + 1) (omega arith)
  where
    above_if : (b : Bool) (m : ℕ) → 0 < m → 0 < (if b then 1 else m)
    above_if true m h = omega arith
    above_if false m h = h

remove_step : (b : Bool) (u : ℕ) (uids rest : List ℕ) (k : ℕ) → 0 < k → remove uids (k - 1) ≡ rest →
    remove (u ∷ uids) ((if b then 1 else k + 1) - 1) ≡ (if b then uids else u ∷ rest)
remove_step true u uids rest k some e = refl
remove_step false u uids rest k some e =
    let f : k + 1 - 1 ≡ suc (k - 1) = omega arith in
    ap (remove (u ∷ uids)) f ∙ ap (λ (xs : List ℕ). u ∷ xs) e

-- what is removed at a message's position
pub remove_position : (uid : ℕ) (view : List ℕ) → remove view (position uid view - 1) ≡ without uid view
remove_position uid [] = refl
remove_position uid (u ∷ uids) = remove_step (u == uid) u uids (without uid uids) (position uid uids) (position_pos uid uids) (remove_position uid uids)

pub not_falling : (view : List ℕ) → IsStrictlyIncreasing view → (i j : ℕ) → i ≤ j → j < length view → get_or view i 0 ≤ get_or view j 0
not_falling view up i j l m = elim (cases_lt i j) [
  | inl low ↦ let less : get_or view i 0 < get_or view j 0 = AllPairs-from_increasing view up i j 0 low m in omega (arith, less)
  | inr high ↦ let same : i ≡ j = omega arith in rw same (omega arith)
]

-- what a search by halving says of a rising list
pub searched_at : (xs : List ℕ) (uid : ℕ) (r : Result ℕ ℕ) → IsBinarySearchResult (λ y. nat_cmp y uid) xs r → IsStrictlyIncreasing xs →
    MatchResult r (λ k. (k < length xs) × (get_or xs k 0 ≡ uid)) (λ k. Contains xs uid → ⊥)
searched_at xs uid (Ok k) h up = searched xs uid (Ok k) h (λ i j l m. not_falling xs up i j l m)
searched_at xs uid (Err k) h up = λ there.
    let gap = searched xs uid (Err k) h (λ i j l m. not_falling xs up i j l m) in
    let here : get_or xs there.0 0 ≡ uid = get_or_default xs there.0 0 uid there.1 ∙ there.2 in
    elim (cases_lt there.0 k) [
      | inl low ↦ let less : get_or xs there.0 0 < uid = gap.1 there.0 low in absurd (omega (arith, less, here))
      | inr high ↦ let more : uid < get_or xs there.0 0 = gap.2 there.0 (omega arith) there.1 in absurd (omega (arith, more, here))
    ]

-- ---- what is left of a view behind an index

module _ (view : List ℕ) (near : ℕ) (up : IsStrictlyIncreasing view) where
  pub rest_rises : IsStrictlyIncreasing (drop near view)
  rest_rises k l =
      let here = get_or-drop near view k 0 in
      let next : near + (k + 1) ≡ near + k + 1 = omega arith in
      let behind : get_or (drop near view) (k + 1) 0 ≡ get_or view (near + k + 1) 0 = get_or-drop near view (k + 1) 0 ∙ ap (λ (i : ℕ). get_or view i 0) next in
      let less : get_or view (near + k) 0 < get_or view (near + k + 1) 0 = up (near + k) (omega (arith, l, length-drop near view)) in
      omega (arith, here, behind, less)

  -- a UID stands there unless it is less than the one at the index
  pub in_rest : (uid : ℕ) → near < length view → get_or view near 0 ≤ uid → Contains view uid → Contains (drop near view) uid
  in_rest uid within high there =
      let here : get_or view there.0 0 ≡ uid = get_or_default view there.0 0 uid there.1 ∙ there.2 in
      elim (cases_lt there.0 near) [
        | inl low ↦ let less : get_or view there.0 0 < get_or view near 0 = AllPairs-from_increasing view up there.0 near 0 low within in absurd (omega (arith, less, here, high))
        | inr from ↦
            let at : near + (there.0 - near) ≡ there.0 = omega (arith, from) in (
              there.0 - near,
              omega (arith, there.1, from, length-drop near view),
              get_or-drop near view (there.0 - near) uid ∙ ap (λ (i : ℕ). get_or view i uid) at ∙ there.2,
            )
      ]
