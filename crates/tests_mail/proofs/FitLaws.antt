-- Changes that were looked at one by one may be shown to a client: no UID comes again, and each is of a message that is there.
use Rattle.std.proofs.Common.{◌≡◌, ℕ, zero, suc, ◌<◌, Bool, true, false, ◌==◌, List, [], ◌∷◌, ◌++◌, length, get_or, sym, ap, ◌∙◌, refl, arith, append_assoc}
use Rattle.std.specs.Prelude.{remove, if◌then◌else◌}
use Rattle.change_ring.specs.declared.change.Change.{Change}
use Rattle.change_ring.specs.Log.{added, without}
use Rattle.change_ring.proofs.LogLaws.{added-append}

step : (b : Bool) (u : ℕ) (uids rest : List ℕ) → b ≡ false → u ∷ rest ≡ (if b then uids else u ∷ rest)
step true u uids rest e = absurd (cc)
step false u uids rest e = refl

found : (b : Bool) (u : ℕ) (uids rest : List ℕ) → b ≡ true → uids ≡ (if b then uids else u ∷ rest)
found true u uids rest e = refl
found false u uids rest e = absurd (cc)

-- what is left where the first of a UID is removed
pub removed_first : (uid : ℕ) (view : List ℕ) (i : ℕ) → i < length view → (get_or view i 0 == uid) ≡ true → ((k : ℕ) → k < i → (get_or view k 0 == uid) ≡ false) → remove view i ≡ without uid view
removed_first uid [] i l e f = absurd (omega (arith, l))
removed_first uid (u ∷ uids) zero l e f = found (u == uid) u uids (without uid uids) e
removed_first uid (u ∷ uids) (suc i) l e f =
    ap (λ (us : List ℕ). u ∷ us) (removed_first uid uids i (omega (arith, l)) e (λ k m. f (suc k) (omega (arith, m))))
    ∙ step (u == uid) u uids (without uid uids) (f 0 (omega arith))

module _ (x : Change) (all rest : List Change) (split : all ≡ x ∷ rest) where
  -- its UID was noted, if it adds one
  pub added_after : (seen new whole : List ℕ) → new ≡ seen ++ added (x ∷ []) → seen ++ added all ≡ whole → new ++ added rest ≡ whole
  added_after seen new whole now was =
      ap (λ (us : List ℕ). us ++ added rest) now
      ∙ append_assoc seen (added (x ∷ [])) (added rest)
      ∙ ap (λ (us : List ℕ). seen ++ us) (sym (added-append (x ∷ []) rest) ∙ sym (ap added split))
      ∙ was
