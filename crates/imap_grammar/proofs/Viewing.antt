-- A message's position in a view, found by halving.
use Rattle.std.proofs.Common.{◌≡◌, ◌≢◌, ℕ, zero, suc, ◌+◌, ◌-◌, ◌<◌, ltb, true, false, ◌==◌, List, [], ◌∷◌, length, get_or, refl, inl, inr, arith, eq-eqb}
use Rattle.std.specs.List.Sorted.{IsNonDecreasing, IsPartitionPoint}
use Rattle.std.proofs.lemmas.Bool.{ltb-true, ltb-false, cases_lt}
use Rattle.std.proofs.lemmas.Bool.Decides.{eqb_tells}
use Rattle.change_ring.specs.View.{position}

differ : (a b : ℕ) → a ≢ b → (a == b) ≡ false
differ a b h = elim (eqb_tells a b) [
  | inl t ↦ absurd (h t.1)
  | inr t ↦ t.0
]

-- the first index of a UID
position_first : (uid : ℕ) (view : List ℕ) (k : ℕ) → k < length view → get_or view k 0 ≡ uid → ((i : ℕ) → i < k → get_or view i 0 ≢ uid)
    → position uid view ≡ k + 1
position_first uid [] k l e f = absurd (omega arith)
position_first uid (u ∷ uids) zero l e f = rw (eq-eqb u uid e) refl
position_first uid (u ∷ uids) (suc k) l e f =
    let next : position uid uids ≡ k + 1 = position_first uid uids k (omega arith) e (λ i h. f (suc i) (omega arith)) in
    rw (differ u uid (f 0 (omega arith))) (omega (arith, next))

position_nowhere : (uid : ℕ) (view : List ℕ) → ((i : ℕ) → i < length view → get_or view i 0 ≢ uid) → position uid view ≡ length view + 1
position_nowhere uid [] f = refl
position_nowhere uid (u ∷ uids) f =
    let next : position uid uids ≡ length uids + 1 = position_nowhere uid uids (λ i h. f (suc i) (omega arith)) in
    rw (differ u uid (f 0 (omega arith))) (omega (arith, next))

module _ (uid : ℕ) (view : List ℕ) (k : ℕ) (point : IsPartitionPoint (λ u. ltb u uid ≡ true) (λ u. ltb u uid ≡ false) view k) where
  pub halved_there : k < length view → get_or view k 0 ≡ uid → position uid view ≡ k + 1
  halved_there l e = position_first uid view k l e (λ i h same. let low = ltb-true _ _ (point.0 i 0 (omega arith) h) in omega (arith, low, same))

  pub halved_nowhere : IsNonDecreasing view → (k < length view → get_or view k 0 ≢ uid) → position uid view ≡ length view + 1
  halved_nowhere up other = position_nowhere uid view (λ i l same. elim (cases_lt i k) [
    | inl low ↦ let below = ltb-true _ _ (point.0 i 0 (omega arith) low) in omega (arith, below, same)
    | inr high ↦
        let least = ltb-false _ _ (point.1 k 0 (omega arith) (omega arith)) in
        let above = up k i 0 high l in
        other (omega arith) (omega (arith, least, above, same))
  ])

-- a UID that is greater than the one before it stands nowhere earlier
pub first_behind_less : (uid : ℕ) (view : List ℕ) (k : ℕ) → IsNonDecreasing view → k < length view → get_or view k 0 ≡ uid → get_or view (k - 1) 0 < uid
    → position uid view ≡ k + 1
first_behind_less uid view k up l e less = position_first uid view k l e (λ i h same. let below = up i (k - 1) 0 (omega arith) (omega arith) in omega (arith, below, less, same))
