-- Laws of a view while messages are taken out of it.
use Rattle.std.proofs.Common.{◌≡◌, ◌≢◌, ℕ, zero, suc, ◌+◌, ◌-◌, ◌<◌, ◌≤◌, Bool, true, false, cond, ltb, lt-ltb, List, [], ◌∷◌, ◌++◌, length, get_or, take, drop, Contains, refl, sym, ap, subst, ◌∙◌, inl, inr, arith}
use Rattle.std.specs.Prelude.{remove, insert, All}
use Rattle.std.specs.List.{AllByRecursion}
use Rattle.std.specs.List.Sorted.{IsPartitionPoint, IsStrictlyIncreasing}
use Rattle.std.proofs.lemmas.Bool.{cases_lt, ltb-true, ltb-false}
use Rattle.std.proofs.lemmas.List.{append-nil, get_or_default, length-take-le, take-append-drop}
use Rattle.std.proofs.lemmas.List.Edits.{length-remove, get_or-remove_below, get_or-remove_above, remove-append_left}
use Rattle.std.proofs.lemmas.List.Elements.{All-from_recursion, recursion_from_All}
use Rattle.std.proofs.lemmas.List.Sums.{prefix_len_is, prefix_len-le-length}
use Rattle.std.proofs.lemmas.List.Kept.{AllPairs-from_increasing}
use Rattle.cursor_set.specs.Leaving.{counted, AreIn}
use Rattle.cursor_set.specs.inner.Leaving.{below}
use Rattle.change_ring.specs.View.{position}
use Rattle.cursor_set.proofs.Positions.{Rises, Rises-from, Rises-to, Rises-first, all-first, not_falling, position_at}

-- ---- one UID is removed

remove_none : (k : ℕ) → remove {X = ℕ} [] k ≡ []
remove_none zero = refl
remove_none (suc k) = refl

-- two are: the later one first, or the earlier one
remove_both : (xs : List ℕ) (low high : ℕ) → low ≤ high → remove (remove xs (suc high)) low ≡ remove (remove xs low) high
remove_both [] low high h =
    ap (λ (ys : List ℕ). remove ys low) (remove_none (suc high)) ∙ remove_none low
    ∙ sym (ap (λ (ys : List ℕ). remove ys high) (remove_none low) ∙ remove_none high)
remove_both (x ∷ xs) zero high h = refl
remove_both (x ∷ xs) (suc low) zero h = absurd (omega (arith, h))
remove_both (x ∷ xs) (suc low) (suc high) h = ap (λ (ys : List ℕ). x ∷ ys) (remove_both xs low high (omega (arith, h)))

all_remove : (P : ℕ → Type 0) (xs : List ℕ) (k : ℕ) (zs : List ℕ) → AllByRecursion P (xs ++ zs) → AllByRecursion P (remove xs k ++ zs)
all_remove P [] k zs h = subst (λ (ys : List ℕ). AllByRecursion P (ys ++ zs)) (sym (remove_none k)) h
all_remove P (x ∷ xs) zero zs h = h.1
all_remove P (x ∷ xs) (suc k) zs h = (h.0, all_remove P xs k zs h.1)

rises_remove : (xs : List ℕ) (k : ℕ) (zs : List ℕ) → Rises (xs ++ zs) → Rises (remove xs k ++ zs)
rises_remove [] k zs h = subst (λ (ys : List ℕ). Rises (ys ++ zs)) (sym (remove_none k)) h
rises_remove (x ∷ xs) zero zs h = h.1
rises_remove (x ∷ xs) (suc k) zs h = (all_remove (λ y. x < y) xs k zs h.0, rises_remove xs k zs h.1)

rises_counted : (gone view later : List ℕ) → Rises (view ++ later) → Rises (counted gone view ++ later)
rises_counted [] view later h = h
rises_counted (g ∷ gs) view later h = rises_remove (counted gs view) g later (rises_counted gs view later h)

-- ---- indices that rise

-- none is below what is below them all
none_below : (i : ℕ) (gs : List ℕ) → AllByRecursion (λ y. i < y) gs → below i gs ≡ 0
none_below i [] h = refl
none_below i (g ∷ gs) h = by_case (ltb g i) refl
  where
    by_case : (b : Bool) → ltb g i ≡ b → cond b (1 + below i gs) 0 ≡ 0
    by_case true e = absurd (omega (arith, ltb-true g i e, h.0))
    by_case false e = refl

-- there is room for those that are below an index
below_room : (g i : ℕ) (gs : List ℕ) → AllByRecursion (λ y. g < y) gs → Rises gs → g < i → g + below i gs < i
below_room g i [] h up low = omega (arith, low)
below_room g i (k ∷ ks) h up low = by_case (ltb k i) refl (below_room k i ks up.0 up.1)
  where
    by_case : (b : Bool) → ltb k i ≡ b → (k < i → k + below i ks < i) → g + cond b (1 + below i ks) 0 < i
    by_case true e rest = omega (arith, h.0, rest (ltb-true k i e))
    by_case false e rest = omega (arith, low)

-- each is as far up as there are others before it
climbs : (g : ℕ) (gs : List ℕ) (k : ℕ) → AllByRecursion (λ y. g < y) gs → Rises gs → k < length gs → g + k < get_or gs k 0
climbs g [] k h up l = absurd (omega (arith, l))
climbs g (x ∷ xs) zero h up l = omega (arith, h.0)
climbs g (x ∷ xs) (suc k) h up l = omega (arith, h.0, climbs x xs k up.0 up.1 (omega (arith, l)))

pub spread : (gs : List ℕ) (i j : ℕ) → Rises gs → i ≤ j → j < length gs → get_or gs i 0 + (j - i) ≤ get_or gs j 0
spread [] i j up le l = absurd (omega (arith, l))
spread (g ∷ gs) zero zero up le l = omega arith
spread (g ∷ gs) zero (suc j) up le l = omega (arith, climbs g gs j up.0 up.1 (omega (arith, l)))
spread (g ∷ gs) (suc i) zero up le l = absurd (omega (arith, le))
spread (g ∷ gs) (suc i) (suc j) up le l = omega (arith, spread gs i j up.1 (omega (arith, le)) (omega (arith, l)))

last_room : (g n : ℕ) (gs : List ℕ) → AllByRecursion (λ y. g < y) gs → Rises gs → g < n → AllByRecursion (λ y. y < n) gs → g + length gs < n
last_room g n [] h up low all = omega (arith, low)
last_room g n (k ∷ ks) h up low all = omega (arith, h.0, last_room k n ks up.0 up.1 all.0 all.1)

below_most : (i : ℕ) (gone : List ℕ) → Rises gone → below i gone ≤ i
below_most i [] up = omega arith
below_most i (g ∷ gs) up = by_case (ltb g i) refl
  where
    by_case : (b : Bool) → ltb g i ≡ b → cond b (1 + below i gs) 0 ≤ i
    by_case true e = omega (arith, below_room g i gs up.0 up.1 (ltb-true g i e))
    by_case false e = omega arith

above_index : (g i : ℕ) (gs : List ℕ) → AllByRecursion (λ y. g < y) gs → i < g → AllByRecursion (λ y. i < y) gs
above_index g i [] h low = tt
above_index g i (k ∷ ks) h low = (omega (arith, h.0, low), above_index g i ks h.1 low)

-- ---- how many count

module _ (view : List ℕ) where
  length_left : (gone : List ℕ) → Rises gone → AllByRecursion (λ y. y < length view) gone → length (counted gone view) + length gone ≡ length view
  length_left [] up all = omega arith
  length_left (g ∷ gs) up all =
      let rest = length_left gs up.1 all.1 in
      omega (arith, rest, length-remove (counted gs view) g (omega (arith, rest, last_room g (length view) gs up.0 up.1 all.0 all.1)))

  -- so a first index is one of what is left by the others
  first_there : (g : ℕ) (gs : List ℕ) → Rises (g ∷ gs) → AllByRecursion (λ y. y < length view) (g ∷ gs) → g < length (counted gs view)
  first_there g gs up all = omega (arith, length_left gs up.1 all.1, last_room g (length view) gs up.0 up.1 all.0 all.1)

  -- ---- where what counts stands in the view

  record Stands (gone : List ℕ) (j i : ℕ) : Type 0 where
    within : i < length view
    same : get_or (counted gone view) j 0 ≡ get_or view i 0
    moved : j + below i gone ≡ i
    counts : AllByRecursion (λ y. y ≢ i) gone

  stands_front : (g j : ℕ) (gs : List ℕ) → Rises (g ∷ gs) → AllByRecursion (λ y. y < length view) (g ∷ gs) → j < g → (i : ℕ) × Stands gs j i → (i : ℕ) × Stands (g ∷ gs) j i
  stands_front g j gs up all low s =
      let i = s.0 in
      let h = s.1 in
      let under : i < g = elim (cases_lt i g) [
        | inl less ↦ less
        | inr more ↦ elim (cases_lt g i) [
          | inl above ↦ absurd (omega (arith, below_room g i gs up.0 up.1 above, h.moved, low))
          | inr most ↦
              let same : g ≡ i = omega (arith, more, most) in
              let none : below i gs ≡ 0 = none_below i gs (subst (λ (k : ℕ). AllByRecursion (λ y. k < y) gs) same up.0) in
              absurd (omega (arith, none, h.moved, low, same))
        ]
      ] in
      let none : below i (g ∷ gs) ≡ 0 = none_below i (g ∷ gs) (under, above_index g i gs up.0 under) in
      let none_rest : below i gs ≡ 0 = none_below i gs (above_index g i gs up.0 under) in (
        i,
        record {
          within = h.within;
          same = get_or-remove_below (counted gs view) g 0 j low (first_there g gs up all) ∙ h.same;
          moved = omega (arith, none, none_rest, h.moved);
          counts = (λ e. omega (arith, e, under), h.counts);
        },
      )

  stands_behind : (g j : ℕ) (gs : List ℕ) → Rises (g ∷ gs) → AllByRecursion (λ y. y < length view) (g ∷ gs) → g ≤ j → (i : ℕ) × Stands gs (j + 1) i → (i : ℕ) × Stands (g ∷ gs) j i
  stands_behind g j gs up all high s =
      let i = s.0 in
      let h = s.1 in
      let over : g < i = omega (arith, h.moved, high) in
      let one_more : below i (g ∷ gs) ≡ 1 + below i gs = ap (λ (b : Bool). cond b (1 + below i gs) 0) (lt-ltb g i over) in (
        i,
        record {
          within = h.within;
          same = get_or-remove_above (counted gs view) g 0 j high (first_there g gs up all) ∙ h.same;
          moved = omega (arith, one_more, h.moved);
          counts = (λ e. omega (arith, e, over), h.counts);
        },
      )

  stands : (gone : List ℕ) → Rises gone → AllByRecursion (λ y. y < length view) gone → (j : ℕ) → j < length (counted gone view) → (i : ℕ) × Stands gone j i
  stands [] up all j l = (j, record { within = l; same = refl; moved = omega arith; counts = tt })
  stands (g ∷ gs) up all j l =
      let long = length-remove (counted gs view) g (first_there g gs up all) in
      elim (cases_lt j g) [
        | inl low ↦ stands_front g j gs up all low (stands gs up.1 all.1 j (omega (arith, l, long)))
        | inr high ↦ stands_behind g j gs up all high (stands gs up.1 all.1 (j + 1) (omega (arith, l, long)))
      ]

-- ---- one more is gone

counted_put : (i : ℕ) (gone view : List ℕ) → Rises gone → counted (insert gone (below i gone) i) view ≡ remove (counted gone view) (i - below i gone)
counted_put i [] view up = let e : i ≡ i - 0 = omega arith in ap (remove view) e
counted_put i (g ∷ gs) view up = by_case (ltb g i) refl (counted_put i gs view up.1)
  where
    by_case : (b : Bool) → ltb g i ≡ b → counted (insert gs (below i gs) i) view ≡ remove (counted gs view) (i - below i gs) →
        counted (insert (g ∷ gs) (cond b (1 + below i gs) 0) i) view ≡ remove (remove (counted gs view) g) (i - cond b (1 + below i gs) 0)
    by_case true e rest =
        let room = below_room g i gs up.0 up.1 (ltb-true g i e) in
        let one : 1 + below i gs ≡ suc (below i gs) = omega arith in
        let first : i - below i gs ≡ suc (i - (1 + below i gs)) = omega (arith, room) in
        ap (λ (n : ℕ). counted (insert (g ∷ gs) n i) view) one
        ∙ ap (λ (xs : List ℕ). remove xs g) (rest ∙ ap (remove (counted gs view)) first)
        ∙ remove_both (counted gs view) g (i - (1 + below i gs)) (omega (arith, room))
    by_case false e rest = let f : i ≡ i - 0 = omega arith in ap (remove (remove (counted gs view) g)) f

all_put : (P : ℕ → Type 0) (xs : List ℕ) (k i : ℕ) → P i → AllByRecursion P xs → AllByRecursion P (insert xs k i)
all_put P [] zero i p h = (p, tt)
all_put P [] (suc k) i p h = (p, tt)
all_put P (x ∷ xs) zero i p h = (p, h)
all_put P (x ∷ xs) (suc k) i p h = (h.0, all_put P xs k i p h.1)

rises_put : (i : ℕ) (gone : List ℕ) → Rises gone → AllByRecursion (λ y. y ≢ i) gone → Rises (insert gone (below i gone) i)
rises_put i [] up ne = (tt, tt)
rises_put i (g ∷ gs) up ne = by_case (ltb g i) refl (rises_put i gs up.1 ne.1)
  where
    by_case : (b : Bool) → ltb g i ≡ b → Rises (insert gs (below i gs) i) → Rises (insert (g ∷ gs) (cond b (1 + below i gs) 0) i)
    by_case true e rest =
        let one : suc (below i gs) ≡ 1 + below i gs = omega arith in
        subst (λ (n : ℕ). Rises (insert (g ∷ gs) n i)) one
        (all_put (λ y. g < y) gs (below i gs) i (ltb-true g i e) up.0, rest)
    by_case false e rest =
        let other = ne.0 in
        let low : i < g = elim (cases_lt i g) [ inl less ↦ less | inr more ↦ absurd (other (omega (arith, more, ltb-false g i e))) ] in
        ((low, above_index g i gs up.0 low), up)

-- ---- the view is closed, or grows

counted_more : (gone view : List ℕ) (k : ℕ) → Rises gone → k < length gone → counted (take (suc k) gone) view ≡ remove (counted (take k gone) view) (get_or gone k 0 - k)
counted_more [] view k up l = absurd (omega (arith, l))
counted_more (g ∷ gs) view zero up l = let e : g ≡ g - 0 = omega arith in ap (remove view) e
counted_more (g ∷ gs) view (suc k) up l =
    let less : k < length gs = omega (arith, l) in
    let high = climbs g gs k up.0 up.1 less in
    let first : get_or gs k 0 - k ≡ suc (get_or gs k 0 - suc k) = omega (arith, high) in
    ap (λ (xs : List ℕ). remove xs g) (counted_more gs view k up.1 less ∙ ap (remove (counted (take k gs) view)) first)
    ∙ remove_both (counted (take k gs) view) g (get_or gs k 0 - suc k) (omega (arith, high))

counted_push : (gone view : List ℕ) (uid : ℕ) → Rises gone → AllByRecursion (λ y. y < length view) gone → counted gone (view ++ uid ∷ []) ≡ counted gone view ++ uid ∷ []
counted_push [] view uid up all = refl
counted_push (g ∷ gs) view uid up all =
    ap (λ (xs : List ℕ). remove xs g) (counted_push gs view uid up.1 all.1)
    ∙ remove-append_left (counted gs view) (uid ∷ []) g (first_there view g gs up all)

-- ---- the same of indices as contracts have them

abbrev Within : List ℕ → List ℕ → Type 0
Within gone view = AllByRecursion (λ y. y < length view) gone

up_of : (gone view : List ℕ) → AreIn gone view → Rises gone
up_of gone view h = Rises-from gone h.rising

within_of : (gone view : List ℕ) → AreIn gone view → Within gone view
within_of gone view h = recursion_from_All (λ y. y < length view) gone h.within

are_in : (gone view : List ℕ) → Rises gone → Within gone view → AreIn gone view
are_in gone view up all = record { rising = Rises-to gone up; within = All-from_recursion (λ y. y < length view) gone all }

pub length_counted : (gone view : List ℕ) → AreIn gone view → length (counted gone view) + length gone ≡ length view
length_counted gone view h = length_left view gone (up_of gone view h) (within_of gone view h)

pub still_rises : (gone view later : List ℕ) → IsStrictlyIncreasing (view ++ later) → IsStrictlyIncreasing (counted gone view ++ later)
still_rises gone view later h = Rises-to (counted gone view ++ later) (rises_counted gone view later (Rises-from (view ++ later) h))

pub still_rises_without : (view later : List ℕ) (k : ℕ) → IsStrictlyIncreasing (view ++ later) → IsStrictlyIncreasing (remove view k ++ later)
still_rises_without view later k h = Rises-to (remove view k ++ later) (rises_remove view k later (Rises-from (view ++ later) h))

-- ---- how many are below an index

pub below_point : (i : ℕ) (gone : List ℕ) (n : ℕ) → IsPartitionPoint (λ g. ltb g i ≡ true) (λ g. ltb g i ≡ false) gone n → n ≤ length gone → n ≡ below i gone
below_point i gone n point most = sym (prefix_len_is (λ (g : ℕ). ltb g i) gone n 0 most (λ k l. point.0 k 0 (omega arith) l) (λ l. point.1 n 0 (omega arith) l))

pub below_all : (i : ℕ) (gone : List ℕ) → IsStrictlyIncreasing gone → get_or gone (length gone - 1) 0 < i → length gone ≡ below i gone
below_all i gone up last =
    sym (prefix_len_is (λ (g : ℕ). ltb g i) gone (length gone) 0 (omega arith)
    (λ k l. let low = not_falling gone up k (length gone - 1) (omega (arith, l)) (omega (arith, l)) in lt-ltb (get_or gone k 0) i (omega (arith, low, last)))
    (λ l. absurd (omega (arith, l))))

pub below_few : (i : ℕ) (gone view : List ℕ) → AreIn gone view → (below i gone ≤ i) × (below i gone ≤ length gone)
below_few i gone view h = (below_most i gone (up_of gone view h), prefix_len-le-length (λ (g : ℕ). ltb g i) gone)

-- ---- where a message stands

-- a message that counts stands at this index of the view
pub record IsFound (gone view : List ℕ) (uid i : ℕ) : Type 0 where
  pub low : below i gone ≤ i
  pub position : i - below i gone + 1 ≡ position uid (counted gone view)
  pub within : i - below i gone < length (counted gone view)
  pub others : All (λ other. other ≢ i) gone

same_index : (view : List ℕ) → IsStrictlyIncreasing view → (i j : ℕ) → i < length view → j < length view → get_or view i 0 ≡ get_or view j 0 → i ≡ j
same_index view up i j l m e = elim (cases_lt i j) [
  | inl low ↦ let less : get_or view i 0 < get_or view j 0 = AllPairs-from_increasing view up i j 0 low m in absurd (omega (arith, less, e))
  | inr high ↦ elim (cases_lt j i) [
    | inl low ↦ let less : get_or view j 0 < get_or view i 0 = AllPairs-from_increasing view up j i 0 low l in absurd (omega (arith, less, e))
    | inr most ↦ omega (arith, high, most)
  ]
]

module _ (gone view : List ℕ) (uid : ℕ) (h : AreIn gone view) (up : IsStrictlyIncreasing view) (there : Contains (counted gone view) uid) where
  here : get_or (counted gone view) there.0 0 ≡ uid
  here = get_or_default (counted gone view) there.0 0 uid there.1 ∙ there.2

  spot : (i : ℕ) × Stands view gone there.0 i
  spot = stands view gone (up_of gone view h) (within_of gone view h) there.0 there.1

  pub in_view : Contains view uid
  in_view = (spot.0, spot.1.within, sym (get_or_default view spot.0 0 uid spot.1.within) ∙ sym spot.1.same ∙ here)

  found_there : IsFound gone view uid spot.0
  found_there =
      let s = spot.1 in
      let at : spot.0 - below spot.0 gone ≡ there.0 = omega (arith, s.moved) in
      let rises : Rises (counted gone view) =
      Rises-first (counted gone view) [] (rises_counted gone view [] (Rises-from (view ++ []) (subst IsStrictlyIncreasing (sym (append-nil view)) up))) in record {
        low = omega (arith, s.moved);
        position = sym (position_at uid (counted gone view) there.0 rises there.1 here ∙ ap (λ (n : ℕ). n + 1) (sym at));
        within = omega (arith, at, there.1);
        others = All-from_recursion (λ y. y ≢ spot.0) gone s.counts;
      }

  pub found : (i : ℕ) → i < length view → get_or view i 0 ≡ uid → IsFound gone view uid i
  found i l e = subst (IsFound gone view uid) (same_index view up spot.0 i spot.1.within l (sym spot.1.same ∙ here ∙ sym e)) found_there

-- ---- one more is gone

module _ (gone view : List ℕ) (i : ℕ) (h : AreIn gone view) (l : i < length view) (others : All (λ other. other ≢ i) gone) where
  pub put_in : AreIn (insert gone (below i gone) i) view
  put_in = are_in (insert gone (below i gone) i) view
      (rises_put i gone (up_of gone view h) (recursion_from_All (λ y. y ≢ i) gone others))
      (all_put (λ y. y < length view) gone (below i gone) i l (within_of gone view h))

  pub put_counted : counted (insert gone (below i gone) i) view ≡ remove (counted gone view) (i - below i gone)
  put_counted = counted_put i gone view (up_of gone view h)

-- ---- one more is added

module _ (gone view : List ℕ) (uid : ℕ) (h : AreIn gone view) where
  pub added_counted : counted gone (view ++ uid ∷ []) ≡ counted gone view ++ uid ∷ []
  added_counted = counted_push gone view uid (up_of gone view h) (within_of gone view h)

-- ---- the view is closed over one after another

module _ (gone view : List ℕ) (h : AreIn gone view) (k : ℕ) (l : k < length gone) where
  pub close_more : counted (take (k + 1) gone) view ≡ remove (counted (take k gone) view) (get_or gone k 0 - k)
  close_more = let one : k + 1 ≡ suc k = omega arith in ap (λ (n : ℕ). counted (take n gone) view) one ∙ counted_more gone view k (up_of gone view h) l

  pub close_climbs : k ≤ get_or gone k 0
  close_climbs = omega (arith, spread gone 0 k (up_of gone view h) (omega arith) l)

  pub close_room : get_or gone k 0 - k < length (counted (take k gone) view)
  close_room =
      let part : AreIn (take k gone) view = are_in (take k gone) view
      (Rises-first (take k gone) (drop k gone) (subst Rises (sym (take-append-drop k gone)) (up_of gone view h)))
      (all-first (λ y. y < length view) (take k gone) (drop k gone) (subst (AllByRecursion (λ y. y < length view)) (sym (take-append-drop k gone)) (within_of gone view h))) in
      omega (arith, length_counted (take k gone) view part, length-take-le k gone (omega (arith, l)), h.within k 0 l, close_climbs)

  pub close_spread : (j : ℕ) → k ≤ j → j < length gone → get_or gone k 0 - k + j ≤ get_or gone j 0
  close_spread j le m = omega (arith, spread gone k j (up_of gone view h) le m, close_climbs)
