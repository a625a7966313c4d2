-- The word that a line begins with, up to its first space.
use Rattle.std.proofs.Common.{◌≡◌, ℕ, ◌+◌, ◌<◌, ◌≤◌, Bool, true, false, List, [], ◌∷◌, ◌++◌, ◌==◌, length, take, drop, Some, None, refl, sym, ap, subst, ◌∙◌, arith, slice_index, append_assoc, take-append-drop, length-append, All, get_or-take, get_or, add-zero, ⊎_elim}
use Rattle.std.specs.Str.{bytes_eq}
use Rattle.std.proofs.lemmas.Bool.{cases_Bool}
use Rattle.std.proofs.lemmas.Bool.Decides.{Decides-eqb}
use Rattle.std.proofs.lemmas.List.Elements.{All-head}
use Rattle.std.proofs.lemmas.List.Folds.{list_any_at}
use Rattle.std.proofs.lemmas.Slice.Eq.{bytes_eq-Decides, starts_is}
use lib.Seq.{take-append_seam, drop-append_seam}
use Rattle.memchr.specs.Find.{OccursAt, first_of, matches}
use Rattle.memchr.proofs.lemmas.MatchLemmas.{OccursAt-split, OccursAt-from_part}
use Rattle.memchr.proofs.lemmas.CallerLemmas.{All-matches}
use Rattle.memchr.proofs.lemmas.ValueLemmas.{FindsNeedle-value}
use Rattle.std.specs.Prelude.{Option, codes}
use Rattle.std.specs.Borrow.{Bor}
use Rattle.bstr.specs.Text.{SplitsOnce}
use Rattle.script.specs.Script.{begins, by_letter, has_space, request_of}
use Rattle.script.specs.inner.Script.{IsCut}

abbrev space : List ℕ
space = 32 ∷ []

first_is : (P : ℕ → Type 0) (xs : List ℕ) (k : ℕ) → All P xs → first_of xs ≡ Some k → P k
unfolding first_of
first_is P [] k all e = absurd (cc e)
first_is P (x ∷ xs) k all e = subst P (cc e) (All-head P x xs all)

-- the space that is found is there
there : (line : List ℕ) (k : ℕ) → first_of (matches line space 0) ≡ Some k → OccursAt line space k
there line k e = first_is (OccursAt line space) (matches line space 0) k (All-matches line space 0) e

both : (a b : Bool) → (a ≡ true → b ≡ true) → (b ≡ true → a ≡ true) → a ≡ b
both true b f g = sym (f refl)
both false true f g = g refl
both false false f g = refl

module _ (w line : List ℕ) (one : has_space w ≡ false) where
  no_space : (i : ℕ) → i < length w → ¬ (slice_index w i ≡ 32)
  no_space i l e = absurd (cc (one, list_any_at (λ b. b == 32) w i 0 l (ap (λ b. b == 32) e)))

  -- a line that begins with the word and a space has its first space there
  first_space : (rest : List ℕ) → line ≡ w ++ (space ++ rest) → first_of (matches line space 0) ≡ Some (length w)
  first_space rest e =
      let n = length w in
      let long : length line ≡ n + (1 + length rest) = omega (arith, ap length e, length-append w (space ++ rest)) in
      let front : take n line ≡ w = ap (take n) e ∙ take-append_seam w (space ++ rest) in
      let back : drop n line ≡ space ++ rest = ap (drop n) e ∙ drop-append_seam w (space ++ rest) in
      let here : OccursAt line space n = OccursAt-from_part line space n (omega (arith, long)) (ap (take 1) back) in
      let none : (i : ℕ) → 0 ≤ i → i < n → ¬ OccursAt line space i =
      λ i low high at. no_space i high (ap (λ xs. get_or xs i 0) (sym front) ∙ get_or-take n line i 0 high ∙ ap (slice_index line) (sym (add-zero i)) ∙ at.reads 0 (omega arith)) in
      sym (FindsNeedle-value line space (Some n) (record { low = omega arith; high = omega (arith, long); before = none }, here))

  begun : begins (w ++ space) line ≡ true → line ≡ w ++ (space ++ drop (length (w ++ space)) line)
  begun h = (starts_is Decides-eqb line (w ++ space) (begins (w ++ space) line) refl).0 h ∙ append_assoc w space _

  -- the bytes before the first space are the word exactly where the line begins with it and a space
  pub by_word : (k : ℕ) → first_of (matches line space 0) ≡ Some k → bytes_eq (take k line) w ≡ begins (w ++ space) line
  by_word k e = both _ _
      (λ same. (starts_is Decides-eqb line (w ++ space) (begins (w ++ space) line) refl).1 (drop (k + 1) line)
      (sym (take-append-drop k line) ∙ ap (λ xs. xs ++ drop k line) ((bytes_eq-Decides (take k line) w).0 same) ∙ ap (λ xs. w ++ xs) (OccursAt-split line space k (there line k e)) ∙ sym (append_assoc w space _)))
      (λ h. let at : k ≡ length w = cc (e, first_space _ (begun h)) in
      (bytes_eq-Decides (take k line) w).1 (ap (λ i. take i line) at ∙ ap (take (length w)) (begun h) ∙ take-append_seam w _))

  -- and then that space is the word's end
  pub ends_there : (k : ℕ) → first_of (matches line space 0) ≡ Some k → begins (w ++ space) line ≡ true → k ≡ length w
  ends_there k e h = cc (e, first_space _ (begun h))

  -- a line with no space doesn't begin so
  pub no_word : first_of (matches line space 0) ≡ None → begins (w ++ space) line ≡ false
  no_word e = ⊎_elim (λ h. absurd (cc (e, first_space _ (begun h)))) (λ h. h) (cases_Bool (begins (w ++ space) line))

pub cut_is : (line word : List ℕ) (r : Option (Bor (List ℕ) × Bor (List ℕ))) → SplitsOnce line space (first_of (matches line space 0)) r → has_space word ≡ false → IsCut line word r
cut_is line word None none one = no_word word line one none
cut_is line word (Some (first, rest)) (k, at, front, behind) one =
    (ap (λ xs. bytes_eq xs word) front ∙ by_word word line one k at, λ h. behind ∙ ap (λ i. drop (i + 1) line) (ends_there word line one k at h))

-- a line that begins with none of the four words
pub by_letter_alone : (line : List ℕ) → begins (codes "TAIL ") line ≡ false → begins (codes "HOLD ") line ≡ false → begins (codes "FREE ") line ≡ false → begins (codes "CLOSE ") line ≡ false → by_letter line ≡ request_of line
by_letter_alone line tail hold free close = rw (tail, hold, free, close) refl

-- the first word is none of them
pub another_word : (line word : List ℕ) (r : Option (Bor (List ℕ) × Bor (List ℕ))) (first rest : Bor (List ℕ)) → IsCut line word r → r ≡ Some (first, rest) → bytes_eq first.now word ≡ false → begins (word ++ space) line ≡ false
another_word line word r first rest cut is other = sym (subst (IsCut line word) is cut).0 ∙ other
