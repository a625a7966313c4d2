-- What is kept of a list is the list of its entries' ghost values, and that tells it. And which entries concern an owner after one was added.
use Rattle.std.proofs.Common.{◌≡◌, ◌≢◌, ◌⊎◌, inl, inr, ℕ, Bool, true, false, cond, List, [], ◌∷◌, ◌++◌, map, eqb, eq-eqb, ne_eqb, sym, refl, ap, ◌∙◌}
use mathlib.Core.List.{IsPrefix, cons≢nil, append-nil}
use base.Stored.{Gv, Coded}
use base.Growing.{prefix_anti}
use Rattle.std.proofs.lemmas.Bool.Decides.{eqb_tells}
use Rattle.std.proofs.lemmas.List.{map-append}
use Rattle.std.proofs.lemmas.List.Elements.{filter-append}
use Rattle.shared_history.specs.Pages.{part}

module _ {E : Type 0} (cv : Coded E) where
  first_or : Gv → List Gv → Gv
  first_or other [] = other
  first_or other (value ∷ values) = value

  behind : List Gv → List Gv
  behind [] = []
  behind (value ∷ values) = values

  told_apart : (xs ys : List E) (more : List Gv) → map cv.code xs ++ more ≡ map cv.code ys → IsPrefix xs ys
  unfolding first_or behind
  told_apart [] ys more same = (ys, refl)
  told_apart (x ∷ xs) [] more same = absurd (cons≢nil same)
  told_apart (x ∷ xs) (y ∷ ys) more same =
      let rest : IsPrefix xs ys = told_apart xs ys more (ap behind same) in
      let one : x ≡ y = cv.inj x y (ap (first_or (cv.code x)) same) in
      (rest.0, λ i. one i ∷ rest.1 i)

  -- a list that begins another, as it is kept, begins it
  pub begins_back : (xs ys : List E) → IsPrefix (map cv.code xs) (map cv.code ys) → IsPrefix xs ys
  begins_back xs ys kept = told_apart xs ys kept.0 kept.1

  pub begins_kept : (xs ys : List E) → IsPrefix xs ys → IsPrefix (map cv.code xs) (map cv.code ys)
  begins_kept xs ys at = (map cv.code at.0, sym (map-append cv.code xs at.0) ∙ ap (map cv.code) at.1)

  pub same_back : (xs ys : List E) → map cv.code xs ≡ map cv.code ys → xs ≡ ys
  same_back xs ys same =
      prefix_anti xs ys (told_apart xs ys [] (append-nil (map cv.code xs) ∙ same)) (told_apart ys xs [] (append-nil (map cv.code ys) ∙ sym same))

module _ {E : Type 0} (concerns : ℕ → E → Bool) where
  pub part_longer : (k : ℕ) (log : List E) (e : E) → concerns k e ≡ true → part concerns k (log ++ e ∷ []) ≡ part concerns k log ++ e ∷ []
  part_longer k log e is = filter-append (concerns k) log (e ∷ []) ∙ ap (λ (b : Bool). part concerns k log ++ cond b (e ∷ []) []) is

  pub part_same : (k : ℕ) (log : List E) (e : E) → concerns k e ≡ false → part concerns k (log ++ e ∷ []) ≡ part concerns k log
  part_same k log e is = filter-append (concerns k) log (e ∷ []) ∙ (ap (λ (b : Bool). part concerns k log ++ cond b (e ∷ []) []) is ∙ append-nil (part concerns k log))

-- a family of lists with another one in the place i
abbrev pub with_at : {E : Type 0} → ℕ → List E → (ℕ → List E) → ℕ → List E
with_at i xs owns m = cond (eqb m i) xs (owns m)

module _ {E : Type 0} (i : ℕ) (xs : List E) (owns : ℕ → List E) where
  pub with_here : (m : ℕ) → m ≡ i → with_at i xs owns m ≡ xs
  with_here m is = ap (λ (b : Bool). cond b xs (owns m)) (eq-eqb m i is)

  pub with_else : (m : ℕ) → m ≢ i → with_at i xs owns m ≡ owns m
  with_else m not = ap (λ (b : Bool). cond b xs (owns m)) (ne_eqb m i not)

  unlike : (after : ℕ → List E) (m : ℕ) → ((eqb m i ≡ true) × (m ≡ i)) ⊎ ((eqb m i ≡ false) × (m ≢ i)) → after i ≡ xs → (m ≢ i → after m ≡ owns m)
      → after m ≡ with_at i xs owns m
  unlike after m (inl is) here else = ap after is.1 ∙ (here ∙ sym (with_here m is.1))
  unlike after m (inr not) here else = else not.1 ∙ sym (with_else m not.1)

  -- a family that has this list in the place i, and else is as it was but for the place j
  pub with_but : (after : ℕ → List E) (j : ℕ) → after i ≡ xs → ((m : ℕ) → m ≢ i → m ≢ j → after m ≡ owns m) → (m : ℕ) → m ≢ j → after m ≡ with_at i xs owns m
  with_but after j here else m not = unlike after m (eqb_tells m i) here (λ out. else m out not)
