-- Lists whose elements have the property of their position.
use Rattle.std.proofs.Common.{◌≡◌, ◌<◌, ◌+◌, ◌++◌, ℕ, suc, sym, subst, List, [], ◌∷◌, length, drop, slice_index_or, arith}
use Rattle.house_shared.specs.Crew.{AllAt}

module _ {A : Type 0} (P : ℕ → A → Type 0) where
  -- one more at the end
  pub more_at : (n : ℕ) (xs new : List A) (x : A) (k : ℕ) → new ≡ xs ++ x ∷ [] → AllAt P n xs → k ≡ n + length xs → P k x → AllAt P n new
  more_at n xs new x k is all at here = subst (AllAt P n) (sym is) (by_cases n xs all at) where
    by_cases : (n : ℕ) (xs : List A) → AllAt P n xs → k ≡ n + length xs → AllAt P n (xs ++ x ∷ [])
    by_cases n [] all at = (subst (λ i. P i x) (let e : k ≡ n = omega (arith, at) in e) here, tt)
    by_cases n (y ∷ ys) all at = (all.0, by_cases (suc n) ys all.1 (omega (arith, at)))

  -- the first is taken away
  pub first_at : (n : ℕ) (xs rest : List A) (x : A) → 0 < length xs → x ≡ slice_index_or xs 0 x → rest ≡ drop 1 xs → AllAt P n xs → P n x × AllAt P (n + 1) rest
  first_at n [] rest x some is less all = absurd (omega (arith, some))
  first_at n (y ∷ ys) rest x some is less all =
      let e : suc n ≡ n + 1 = omega arith in
      (subst (P n) (sym is) all.0, subst (AllAt P (n + 1)) (sym less) (subst (λ i. AllAt P i ys) e all.1))

  pub head_at : (n : ℕ) (xs rest : List A) (x : A) → xs ≡ x ∷ rest → AllAt P n xs → P n x × AllAt P (n + 1) rest
  head_at n xs rest x is all =
      let e : suc n ≡ n + 1 = omega arith in
      let h : AllAt P n (x ∷ rest) = subst (AllAt P n) is all in
      (h.0, subst (λ i. AllAt P i rest) e h.1)
