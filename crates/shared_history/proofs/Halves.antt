-- The two halves for an owner: both say the same entries, and together they can be made to say more. Assumes `Logic`.
use Rattle.std.proofs.Common.{◌≡◌, ◌≢◌, ℕ, zero, suc, ◌+◌, ◌-◌, ◌<◌, ◌≤◌, List, [], ◌∷◌, map, length, sym, refl, ap, ◌∙◌, subst, arith}
use mathlib.Core.List.{IsPrefix}
use seplogic.Ra.Ura.{Ura}
use base.Fraction.{full_share}
use base.Share.{left, right, halves}
use base.Stored.{Coded}
use base.Logic.{SProp, ent, sep, ex, guard, upd, emp, id⊢, via, never_e, snd∗, upd_i}
use base.Fml.{Fml}
use base.Growing.{latest}
use types.Logic.{Logic, sem}
use types.Growing.{latest_new, latest_grows, latest_agrees, latest_cut, latest_glue}
use types.Kit.{‵, raw, ◌⊛◌, some, given, ◌$◌, ◌∵◌, !, qed, by, move, split, join, fjoin, pick, learn, show, check, frame, suffices, settle, done, use0, use1, use2, rewrite}
use denote.Steps.{nothing}
use Rattle.shared_history.specs.inner.Kept.{longer, kept_half, owner_half, kept_halves, half_at, halves_from}
use Rattle.shared_history.proofs.Lists.{begins_kept, same_back, with_at, with_here, with_else, with_but}

module _ {E : Type 0} (cv : Coded E) {M : Type 1} {𝓤 : Ura M} (𝓛 : Logic 𝓤) where
  abbrev Assertion : Type 2
  Assertion = SProp 𝓤

  abbrev ◌⊢◌ : Assertion → Assertion → Type 1
  P ⊢ Q = ent 𝓤 P Q

  abbrev ◌∗◌ : Assertion → Assertion → Assertion
  P ∗ Q = sep 𝓤 P Q

  abbrev ⟦◌⟧ : Fml → Assertion
  ⟦ P ⟧ = sem 𝓛 P

  infix 26 ◌⊢◌
  infixr 35 ◌∗◌
  abbrev Kept : ℕ → List E → Fml
  Kept name own = kept_half cv.code name own

  abbrev Owned : ℕ → List E → Fml
  Owned name own = owner_half cv.code name own

  abbrev Whole : ℕ → List E → Fml
  Whole name own = latest longer full_share name (map cv.code own)

  agree : (name : ℕ) (xs ys : List E) → ⟦ Kept name xs ⟧ ∗ ⟦ Owned name ys ⟧ ⊢ guard 𝓤 (xs ≡ ys) (⟦ Kept name xs ⟧ ∗ ⟦ Owned name ys ⟧)
  agree name xs ys = qed 𝓛 (‵ (Kept name xs) ∷ ‵ (Owned name ys) ∷ []) ∵
      use2 𝓛 (given (map cv.code xs ≡ map cv.code ys) (‵ (Kept name xs) ⊛ ‵ (Owned name ys)))
      (latest_agrees longer 𝓛 (left full_share) (right full_share) name (map cv.code xs) (map cv.code ys)) $
      learn ! (λ same. check ! (same_back cv xs ys same) $ done !)

  parted : (name : ℕ) (xs : List E) → ⟦ Whole name xs ⟧ ⊢ ⟦ Kept name xs ⟧ ∗ ⟦ Owned name xs ⟧
  parted name xs = latest_cut longer 𝓛 full_share (left full_share) (right full_share) name (map cv.code xs) (halves full_share)

  grow : (name : ℕ) (xs ys next : List E) → IsPrefix ys next
      → ⟦ Kept name xs ⟧ ∗ ⟦ Owned name ys ⟧ ⊢ upd 𝓤 (⟦ Kept name next ⟧ ∗ ⟦ Owned name next ⟧)
  grow name xs ys next more = let After : Assertion = ⟦ Kept name next ⟧ ∗ ⟦ Owned name next ⟧ in
      qed 𝓛 (‵ (Kept name xs) ∷ ‵ (Owned name ys) ∷ []) ∵
      use2 𝓛 (given (xs ≡ ys) (‵ (Kept name xs) ⊛ ‵ (Owned name ys))) (agree name xs ys) $ learn ! (λ same. split ! $
      rewrite ! 0 (λ (zs : List E). ‵ (Kept name zs)) same refl $
      use2 𝓛 (‵ (Whole name ys)) (latest_glue longer 𝓛 full_share (left full_share) (right full_share) name (map cv.code ys) (halves full_share)) $
      use1 𝓛 (raw (upd 𝓤 ⟦ Whole name next ⟧)) (latest_grows longer 𝓛 name (map cv.code ys) (map cv.code next) (begins_kept cv ys next more)) $
      settle 𝓛 After (‵ (Whole name next)) $ suffices ! After (upd_i 𝓤 After) $ by ! (parted name next))

  -- ---- the halves that the invariant keeps, the owner k's first
  abbrev Keeps : ℕ → List ℕ → (ℕ → List E) → Fml
  Keeps k names owns = kept_halves cv.code k names owns

  abbrev Has : List ℕ → ℕ → List E → Fml
  Has names i own = half_at cv.code names i own

  nobody : (names : List ℕ) (k i : ℕ) (owns : ℕ → List E) (own : List E) (After : Assertion) → names ≡ [] → ⟦ Keeps k names owns ⟧ ∗ ⟦ Has names i own ⟧ ⊢ After
  nobody names k i owns own After none = via 𝓤 ⟦ Has names i own ⟧ (snd∗ 𝓤 ⟦ Keeps k names owns ⟧ ⟦ Has names i own ⟧)
      (subst (λ (ns : List ℕ). ⟦ Has ns i own ⟧ ⊢ After) (sym none) (never_e 𝓤 After))

  -- the owner at the position i knows what stands of it
  pub knows : (names : List ℕ) (k i j : ℕ) (owns : ℕ → List E) (own : List E) → j ≡ k + i
      → ⟦ Keeps k names owns ⟧ ∗ ⟦ Has names i own ⟧ ⊢ guard 𝓤 (owns j ≡ own) (⟦ Keeps k names owns ⟧ ∗ ⟦ Has names i own ⟧)
  knows [] k i j owns own at = nobody [] k i owns own _ refl
  knows (name ∷ names) k zero j owns own at = let here : j ≡ k = omega (arith, at) in
      qed 𝓛 ((‵ (Kept name (owns k)) ⊛ ‵ (Keeps (suc k) names owns)) ∷ ‵ (Owned name own) ∷ []) ∵ split ! $ move ! (0 ∷ 2 ∷ []) $
      use2 𝓛 (given (owns k ≡ own) (‵ (Kept name (owns k)) ⊛ ‵ (Owned name own))) (agree name (owns k) own) $ learn ! (λ same. check ! (ap owns here ∙ same) $
      split ! $ move ! (0 ∷ 2 ∷ []) $ join ! $ done !)
  knows (name ∷ names) k (suc i) j owns own at =
      qed 𝓛 ((‵ (Kept name (owns k)) ⊛ ‵ (Keeps (suc k) names owns)) ∷ ‵ (Has names i own) ∷ []) ∵ split ! $ move ! (1 ∷ 2 ∷ []) $
      use2 𝓛 (given (owns j ≡ own) (‵ (Keeps (suc k) names owns) ⊛ ‵ (Has names i own))) (knows names (suc k) i j owns own (omega (arith, at))) $
      learn ! (λ same. check ! same $ split ! $ move ! (2 ∷ 0 ∷ []) $ join ! $ done !)

  alike : (names : List ℕ) (k : ℕ) (owns after : ℕ → List E) → ((m : ℕ) → k ≤ m → after m ≡ owns m) → ⟦ Keeps k names owns ⟧ ⊢ ⟦ Keeps k names after ⟧
  alike [] k owns after same = id⊢ 𝓤 _
  alike (name ∷ names) k owns after same = qed 𝓛 (‵ (Kept name (owns k)) ∷ ‵ (Keeps (suc k) names owns) ∷ []) ∵
      rewrite ! 0 (λ (xs : List E). ‵ (Kept name xs)) (sym (same k (omega arith))) refl $ frame ! $
      by ! (alike names (suc k) owns after (λ m past. same m (omega (arith, past))))

  -- it goes on by more, and the others stay as they are
  pub goes_on : (names : List ℕ) (k i j : ℕ) (owns after : ℕ → List E) (own next : List E) → j ≡ k + i → after j ≡ next
      → ((m : ℕ) → m ≢ j → after m ≡ owns m) → IsPrefix own next
      → ⟦ Keeps k names owns ⟧ ∗ ⟦ Has names i own ⟧ ⊢ upd 𝓤 (⟦ Keeps k names after ⟧ ∗ ⟦ Has names i next ⟧)
  goes_on [] k i j owns after own next at is else more = nobody [] k i owns own _ refl
  goes_on (name ∷ names) k zero j owns after own next at is else more =
      let here : j ≡ k = omega (arith, at) in let After : Assertion = (⟦ Kept name (after k) ⟧ ∗ ⟦ Keeps (suc k) names after ⟧) ∗ ⟦ Owned name next ⟧ in
      qed 𝓛 ((‵ (Kept name (owns k)) ⊛ ‵ (Keeps (suc k) names owns)) ∷ ‵ (Owned name own) ∷ []) ∵ split ! $ move ! (0 ∷ 2 ∷ []) $
      use2 𝓛 (raw (upd 𝓤 (⟦ Kept name next ⟧ ∗ ⟦ Owned name next ⟧))) (grow name (owns k) own next more) $
      settle 𝓛 After (‵ (Kept name next) ⊛ ‵ (Owned name next)) $ suffices ! After (upd_i 𝓤 After) $ split ! $
      rewrite ! 0 (λ (xs : List E). ‵ (Kept name xs)) (sym is ∙ ap after here) refl $ move ! (2 ∷ []) $
      use1 𝓛 (‵ (Keeps (suc k) names after)) (alike names (suc k) owns after (λ m past. else m (λ same. omega (arith, past, same, here)))) $
      move ! (1 ∷ 0 ∷ 2 ∷ []) $ join ! $ done !
  goes_on (name ∷ names) k (suc i) j owns after own next at is else more =
      let After : Assertion = (⟦ Kept name (after k) ⟧ ∗ ⟦ Keeps (suc k) names after ⟧) ∗ ⟦ Has names i next ⟧ in
      qed 𝓛 ((‵ (Kept name (owns k)) ⊛ ‵ (Keeps (suc k) names owns)) ∷ ‵ (Has names i own) ∷ []) ∵ split ! $
      rewrite ! 0 (λ (xs : List E). ‵ (Kept name xs)) (sym (else k (λ same. omega (arith, same, at)))) refl $ move ! (1 ∷ 2 ∷ []) $
      use2 𝓛 (raw (upd 𝓤 (⟦ Keeps (suc k) names after ⟧ ∗ ⟦ Has names i next ⟧)))
      (goes_on names (suc k) i j owns after own next (omega (arith, at)) is else more) $
      settle 𝓛 After (‵ (Keeps (suc k) names after) ⊛ ‵ (Has names i next)) $ suffices ! After (upd_i 𝓤 After) $ split ! $
      move ! (2 ∷ 0 ∷ []) $ join ! $ done !

  -- two owners go on at once
  pub both_go_on : (names : List ℕ) (i j : ℕ) (owns after : ℕ → List E) (own next other later : List E) → j ≢ i → after i ≡ next → after j ≡ later
      → ((m : ℕ) → m ≢ i → m ≢ j → after m ≡ owns m) → IsPrefix own next → IsPrefix other later
      → ⟦ Keeps 0 names owns ⟧ ∗ ⟦ Has names i own ⟧ ∗ ⟦ Has names j other ⟧ ⊢ upd 𝓤 (⟦ Keeps 0 names after ⟧ ∗ ⟦ Has names i next ⟧ ∗ ⟦ Has names j later ⟧)
  both_go_on names i j owns after own next other later apart is_i is_j else more_i more_j =
      let between : ℕ → List E = with_at i next owns in let After : Assertion = ⟦ Keeps 0 names after ⟧ ∗ ⟦ Has names i next ⟧ ∗ ⟦ Has names j later ⟧ in
      qed 𝓛 (‵ (Keeps 0 names owns) ∷ ‵ (Has names i own) ∷ ‵ (Has names j other) ∷ []) ∵
      use2 𝓛 (raw (upd 𝓤 (⟦ Keeps 0 names between ⟧ ∗ ⟦ Has names i next ⟧)))
      (goes_on names 0 i i owns between own next (omega arith) (with_here i next owns i refl) (with_else i next owns) more_i) $
      settle 𝓛 After (‵ (Keeps 0 names between) ⊛ ‵ (Has names i next)) $ split ! $ move ! (0 ∷ 2 ∷ []) $
      use2 𝓛 (raw (upd 𝓤 (⟦ Keeps 0 names after ⟧ ∗ ⟦ Has names j later ⟧)))
      (goes_on names 0 j j between after other later (omega arith) is_j
      (with_but i next owns after j is_i else) more_j) $
      settle 𝓛 After (‵ (Keeps 0 names after) ⊛ ‵ (Has names j later)) $ suffices ! After (upd_i 𝓤 After) $ split ! $
      move ! (0 ∷ 2 ∷ 1 ∷ []) $ done !

  -- ---- rights: the owners' halves of which nothing stands
  abbrev Rest : List ℕ → ℕ → ℕ → Fml
  Rest names k n = halves_from cv.code names k n

  behind : (name : ℕ) (names : List ℕ) (k n : ℕ) → ⟦ Rest names k n ⟧ ⊢ ⟦ Rest (name ∷ names) (suc k) n ⟧
  behind name names k zero = id⊢ 𝓤 (emp 𝓤)
  behind name names k (suc n) = qed 𝓛 (‵ (Has names k []) ∷ ‵ (Rest names (suc k) n) ∷ []) ∵ frame ! $ by ! (behind name names (suc k) n)

  abbrev pub Dealt : ℕ → ℕ → List ℕ → Assertion
  Dealt k n names = guard 𝓤 (length names ≡ n) (⟦ Keeps k names (λ _. []) ⟧ ∗ ⟦ Rest names 0 n ⟧)

  -- names for so many owners, with both halves of each
  pub dealt : (k n : ℕ) → emp 𝓤 ⊢ upd 𝓤 (ex 𝓤 (Dealt k n))
  dealt k zero = qed 𝓛 [] ∵ suffices ! _ (upd_i 𝓤 (ex 𝓤 (Dealt k zero))) $ show ! (Dealt k zero) [] $ check ! refl $ nothing ! $ nothing ! $ done !
  dealt k (suc n) = let After : Assertion = ex 𝓤 (Dealt k (suc n)) in qed 𝓛 [] ∵
      use0 𝓛 (raw (upd 𝓤 (ex 𝓤 (Dealt (suc k) n)))) (dealt (suc k) n) $
      settle 𝓛 After (some (λ (names : List ℕ). given (length names ≡ n) (‵ (Keeps (suc k) names (λ _. [])) ⊛ ‵ (Rest names 0 n)))) $
      pick ! (λ names. learn ! (λ many. split ! $
      use0 𝓛 (raw (upd 𝓤 (ex 𝓤 (λ (name : ℕ). ⟦ Whole name [] ⟧)))) (latest_new longer 𝓛 []) $
      settle 𝓛 After (some (λ (name : ℕ). ‵ (Whole name []))) $ pick ! (λ name.
      use1 𝓛 (‵ (Kept name []) ⊛ ‵ (Owned name [])) (parted name []) $ split ! $
      suffices ! After (upd_i 𝓤 After) $ show ! (Dealt k (suc n)) (name ∷ names) $ check ! (ap suc many) $
      move ! (0 ∷ 2 ∷ []) $ fjoin ! $ move ! (2 ∷ []) $ use1 𝓛 (‵ (Rest (name ∷ names) 1 n)) (behind name names 0 n) $
      move ! (2 ∷ 0 ∷ []) $ fjoin ! $ move ! (1 ∷ 0 ∷ []) $ done !)))

  -- the next owner's half
  pub one_off : (names : List ℕ) (k n : ℕ) → 0 < n → ⟦ Rest names k n ⟧ ⊢ ⟦ Has names k [] ⟧ ∗ ⟦ Rest names (k + 1) (n - 1) ⟧
  one_off names k zero some_left = absurd (omega (arith, some_left))
  one_off names k (suc n) some_left = let on : suc k ≡ k + 1 = omega arith in let less : n ≡ suc n - 1 = omega arith in
      qed 𝓛 (‵ (Has names k []) ∷ ‵ (Rest names (suc k) n) ∷ []) ∵ rewrite ! 1 (λ (t : ℕ × ℕ). ‵ (Rest names t.0 t.1)) (λ i. (on i, less i)) refl $ done !

  -- the halves of the next so many owners
  pub cut_off : (names : List ℕ) (k count n : ℕ) → count ≤ n → ⟦ Rest names k n ⟧ ⊢ ⟦ Rest names k count ⟧ ∗ ⟦ Rest names (k + count) (n - count) ⟧
  cut_off names k zero n enough = let on : k ≡ k + 0 = omega arith in let less : n ≡ n - 0 = omega arith in
      qed 𝓛 (‵ (Rest names k n) ∷ []) ∵ rewrite ! 0 (λ (t : ℕ × ℕ). ‵ (Rest names t.0 t.1)) (λ i. (on i, less i)) refl $ nothing ! $ done !
  cut_off names k (suc count) zero enough = absurd (omega (arith, enough))
  cut_off names k (suc count) (suc n) enough = let on : suc k + count ≡ k + suc count = omega arith in let less : n - count ≡ suc n - suc count = omega arith in
      qed 𝓛 (‵ (Has names k []) ∷ ‵ (Rest names (suc k) n) ∷ []) ∵ move ! (1 ∷ []) $
      use1 𝓛 (‵ (Rest names (suc k) count) ⊛ ‵ (Rest names (suc k + count) (n - count))) (cut_off names (suc k) count n (omega (arith, enough))) $ split ! $
      rewrite ! 1 (λ (t : ℕ × ℕ). ‵ (Rest names t.0 t.1)) (λ i. (on i, less i)) refl $
      move ! (2 ∷ 0 ∷ []) $ fjoin ! $ done !
