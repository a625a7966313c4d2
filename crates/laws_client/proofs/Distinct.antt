-- No message is counted twice: UIDs rise as they are given.
use Rattle.std.proofs.Common.{◌≡◌, ◌⊎◌, inl, inr, eq-eqb, ℕ, suc, ◌≤◌, ◌==◌, Bool, true, false, List, [], ◌∷◌, ◌++◌, refl, sym, subst, ◌∙◌, arith, append_assoc, append-nil}
use Rattle.std.specs.Prelude.{if◌then◌else◌}
use Rattle.std.specs.List.Sorted.{IsStrictlyIncreasing}
use Rattle.std.proofs.lemmas.Bool.{eqb-true, false≢true}
use Rattle.change_ring.specs.declared.change.Change.{Change}
use Rattle.change_ring.specs.declared.change.Change.TheVariants.{Add, Gone, Flags as SetFlags}
use Rattle.change_ring.specs.Log.{added, replay, without}
use Rattle.change_ring.proofs.LogLaws.{added-append}
use Rattle.imap_grammar.proofs.Rising.{RisesFrom, rises_behind}
use Rattle.laws_client.proofs.Each.{IsIn}

-- no number is there twice
abbrev pub Distinct : List ℕ → Type 0
Distinct [] = Unit {0}
Distinct (x ∷ xs) = (IsIn x xs → ⊥) × Distinct xs

-- ---- numbers that rise

at_least : (a x : ℕ) (xs : List ℕ) → RisesFrom a xs → IsIn x xs → a ≤ x
at_least a x [] h is = absurd is
at_least a x (y ∷ ys) h (inl same) = subst (λ (n : ℕ). a ≤ n) same h.0
at_least a x (y ∷ ys) h (inr other) =
    let above : suc y ≤ x = at_least (suc y) x ys h.1 other in
    omega (arith, above, h.0)

rising_distinct : (a : ℕ) (xs : List ℕ) → RisesFrom a xs → Distinct xs
rising_distinct a [] h = tt
rising_distinct a (x ∷ xs) h = (no_more, rising_distinct (suc x) xs h.1)
  where
    no_more : IsIn x xs → ⊥
    no_more is =
        let above : suc x ≤ x = at_least (suc x) x xs h.1 is in
        absurd (omega (arith, above))

increasing_distinct : (xs : List ℕ) → IsStrictlyIncreasing xs → Distinct xs
increasing_distinct [] h = tt
increasing_distinct (x ∷ xs) h = rising_distinct x (x ∷ xs) (omega arith, rises_behind x xs h)

-- ---- views

pub still_in : (x uid : ℕ) (xs ys : List ℕ) → IsIn x (without uid xs ++ ys) → IsIn x (xs ++ ys)
still_in x uid [] ys is = is
still_in x uid (u ∷ us) ys is = by (u == uid) is (λ other. still_in x uid us ys other)
  where
    by : (b : Bool) → IsIn x ((if b then us else u ∷ without uid us) ++ ys) → (IsIn x (without uid us ++ ys) → IsIn x (us ++ ys)) → (u ≡ x) ⊎ IsIn x (us ++ ys)
    by true i more = inr i
    by false (inl same) more = inl same
    by false (inr other) more = inr (more other)

distinct_without : (uid : ℕ) (xs ys : List ℕ) → Distinct (xs ++ ys) → Distinct (without uid xs ++ ys)
distinct_without uid [] ys h = h
distinct_without uid (u ∷ us) ys h = by (u == uid) (distinct_without uid us ys h.1)
  where
    by : (b : Bool) → Distinct (without uid us ++ ys) → Distinct ((if b then us else u ∷ without uid us) ++ ys)
    by true more = h.1
    by false more = ((λ is. h.0 (still_in u uid us ys is)), more)

pub distinct_replay : (view : List ℕ) (cs : List Change) → Distinct (view ++ added cs) → Distinct (replay view cs)
distinct_replay view [] h = subst Distinct (append-nil view) h
distinct_replay view (Add uid ∷ cs) h = distinct_replay (view ++ uid ∷ []) cs (subst Distinct (sym (append_assoc view (uid ∷ []) (added cs))) h)
distinct_replay view (Gone uid ∷ cs) h = distinct_replay (without uid view) cs (distinct_without uid view (added cs) h)
distinct_replay view (SetFlags uid flags ∷ cs) h = distinct_replay view cs h

distinct_front : (xs ys : List ℕ) → Distinct (xs ++ ys) → Distinct xs
distinct_front [] ys h = tt
distinct_front (x ∷ xs) ys h = ((λ is. h.0 (in_front xs is)), distinct_front xs ys h.1)
  where
    in_front : (us : List ℕ) → IsIn x us → IsIn x (us ++ ys)
    in_front [] is = absurd is
    in_front (u ∷ us) (inl same) = inl same
    in_front (u ∷ us) (inr other) = inr (in_front us other)

-- what is counted behind the first changes of a log
pub front_distinct : (front behind : List Change) → IsStrictlyIncreasing (added (front ++ behind)) → Distinct (replay [] front)
front_distinct front behind h = distinct_replay [] front (distinct_front (added front) (added behind) (subst Distinct (added-append front behind) (increasing_distinct (added (front ++ behind)) h)))

-- where a number was taken away it isn't any more
pub is_away : (uid : ℕ) (view : List ℕ) → Distinct view → IsIn uid (without uid view) → ⊥
is_away uid [] h is = is
is_away uid (u ∷ us) h is = by (u == uid) refl is (λ other. is_away uid us h.1 other)
  where
    by : (b : Bool) → (u == uid) ≡ b → IsIn uid (if b then us else u ∷ without uid us) → (IsIn uid (without uid us) → ⊥) → ⊥
    by true e i more = h.0 (subst (λ (x : ℕ). IsIn x us) (sym (eqb-true u uid e)) i)
    by false e (inl same) more = false≢true (sym e ∙ eq-eqb u uid same)
    by false e (inr other) more = more other
