-- Laws of a ring's order: what a change makes of it that takes the oldest one's cell.
use Rattle.std.proofs.Common.{◌≡◌, ℕ, suc, ◌+◌, ◌<◌, ◌≤◌, List, [], ◌∷◌, ◌++◌, length, take, drop, get_or, sym, ap, ap₂, ◌∙◌, arith, append_assoc, append-nil, drop-cons, drop_of_length-le, length-append, take_at}
use Rattle.std.proofs.lemmas.List.{drop_at, length-take-le}
use Rattle.change_ring.specs.declared.change.Change.{Change}
use Rattle.change_ring.specs.inner.Filled.{around}

module _ (xs : List Change) (s : ℕ) (x : Change) (inside : s < length xs) where
  abbrev ys : List Change
  ys = take s xs ++ x ∷ drop (s + 1) xs

  abbrev newer : List Change
  newer = take s xs ++ x ∷ []

  split_is : ys ≡ newer ++ drop (s + 1) xs
  split_is = sym (append_assoc (take s xs) (x ∷ []) (drop (s + 1) xs))

  newer_long : length newer ≡ s + 1
  newer_long = length-append (take s xs) (x ∷ []) ∙ ap (λ (k : ℕ). k + 1) (length-take-le s xs (omega (arith, inside)))

  -- the next cell is the oldest one's
  next : around (s + 1) ys ≡ drop (s + 1) xs ++ newer
  next = ap₂ (λ (us vs : List Change). us ++ vs) (ap (drop (s + 1)) split_is ∙ drop_at newer (drop (s + 1) xs) (s + 1) newer_long) (ap (take (s + 1)) split_is ∙ take_at newer (drop (s + 1) xs) (s + 1) newer_long)

  -- behind the last cell comes the first
  first : length xs ≤ s + 1 → around 0 ys ≡ drop (s + 1) xs ++ newer
  first last = append-nil ys ∙ split_is ∙ ap (λ (zs : List Change). newer ++ zs) (drop_of_length-le xs last) ∙ append-nil newer ∙ ap (λ (zs : List Change). zs ++ newer) (sym (drop_of_length-le xs last))

  -- the oldest goes out in front, and the new one is the last
  pub turns : (oldest : Change) (to : ℕ) → oldest ≡ get_or xs s oldest → around to ys ≡ drop (s + 1) xs ++ newer → oldest ∷ around to ys ≡ around s xs ++ x ∷ []
  turns oldest to read is =
      let one : suc s ≡ s + 1 = omega arith in
      let front : drop s xs ≡ oldest ∷ drop (s + 1) xs = drop-cons xs s oldest inside ∙ ap₂ (λ (c : Change) (k : ℕ). c ∷ drop k xs) (sym read) one in
      ap (λ (zs : List Change). oldest ∷ zs) (is ∙ sym (append_assoc (drop (s + 1) xs) (take s xs) (x ∷ []))) ∙ ap (λ (zs : List Change). (zs ++ take s xs) ++ x ∷ []) (sym front)

  pub to_next : (oldest : Change) → oldest ≡ get_or xs s oldest → oldest ∷ around (s + 1) ys ≡ around s xs ++ x ∷ []
  to_next oldest read = turns oldest (s + 1) read next

  pub to_first : (oldest : Change) → oldest ≡ get_or xs s oldest → length xs ≤ s + 1 → oldest ∷ around 0 ys ≡ around s xs ++ x ∷ []
  to_first oldest read last = turns oldest 0 read (first last)
