-- What ranges of positions choose of a view.
use Rattle.std.proofs.Common.{◌≡◌, ℕ, suc, ◌+◌, ◌-◌, ◌<◌, ◌≤◌, Bool, true, false, cond, ltb, leb, List, [], ◌∷◌, ◌++◌, length, take, drop, get_or, refl, ap, sym, ◌∙◌, inl, inr, arith, drop-cons, add-one}
use Rattle.std.specs.List.{All, filter}
use Rattle.std.specs.Prelude.{◌&&◌}
use Rattle.std.specs.List.Sorted.{IsNonDecreasingBy, IsPartitionPoint}
use Rattle.std.proofs.lemmas.Bool.{ltb-true, ltb-false, leb-true, leb-false, cases_lt}
use Rattle.std.proofs.lemmas.Bool.Decides.{leb_tells}
use Rattle.std.proofs.lemmas.List.{take-append-drop, length-drop, length-take-le, drop-drop, get_or-drop, get_or_default}
use Rattle.std.proofs.lemmas.List.Elements.{All-weaker}
use Rattle.std.proofs.lemmas.List.Folds.{list_any_none}
use Rattle.imap_grammar.specs.Sets.{at_positions}
use Rattle.imap_grammar.specs.inner.Choosing.{is_within, is_covered}
use Rattle.imap_grammar.specs.declared.positions.PositionRange.{PositionRange}

pub outside : (range : PositionRange) (p : ℕ) → (range.first ≤ p → p ≤ range.last → ⊥) → is_within range p ≡ false
outside range p h = elim (leb_tells range.first p) [
  | inl above ↦ elim (leb_tells p range.last) [
    | inl below ↦ absurd (h above.1 below.1)
    | inr past ↦ rw (above.0, past.0) refl
  ]
  | inr before ↦ rw before.0 refl
]

pub inside : (range : PositionRange) (p : ℕ) → range.first ≤ p → p ≤ range.last → is_within range p ≡ true
inside range p a b = elim (leb_tells range.first p) [
  | inl above ↦ elim (leb_tells p range.last) [
    | inl below ↦ rw (above.0, below.0) refl
    | inr past ↦ absurd (omega (arith, b, past.1))
  ]
  | inr before ↦ absurd (omega (arith, a, before.1))
]

-- no range that begins above a position covers it
uncovered : (ranges : List PositionRange) (p : ℕ) → All (λ other. p < other.first) ranges → is_covered ranges p ≡ false
uncovered ranges p h =
    list_any_none (λ range. is_within range p) ranges
    (All-weaker (λ (other : PositionRange). p < other.first) (λ (other : PositionRange). is_within other p ≡ false) (λ other above. outside other p (λ a b. omega (arith, a, above))) ranges h)

-- tests that agree on the positions of a list choose the same of it
pub same_choice : (f g : ℕ → Bool) (n : ℕ) (xs : List ℕ) → ((p : ℕ) → n ≤ p → p < n + length xs → f p ≡ g p) → at_positions f n xs ≡ at_positions g n xs
same_choice f g n [] h = refl
same_choice f g n (x ∷ xs) h =
    let here : f n ≡ g n = h n (omega arith) (omega arith) in
    let behind : at_positions f (n + 1) xs ≡ at_positions g (n + 1) xs = same_choice f g (n + 1) xs (λ p a b. h p (omega arith) (omega arith)) in
    rw (here, behind) refl

pub none_chosen : (f : ℕ → Bool) (n : ℕ) (xs : List ℕ) → ((p : ℕ) → n ≤ p → p < n + length xs → f p ≡ false) → at_positions f n xs ≡ []
none_chosen f n [] h = refl
none_chosen f n (x ∷ xs) h =
    let here : f n ≡ false = h n (omega arith) (omega arith) in
    rw here (none_chosen f (n + 1) xs (λ p a b. h p (omega arith) (omega arith)))

all_chosen : (f : ℕ → Bool) (n : ℕ) (xs : List ℕ) → ((p : ℕ) → n ≤ p → p < n + length xs → f p ≡ true) → at_positions f n xs ≡ xs
all_chosen f n [] h = refl
all_chosen f n (x ∷ xs) h =
    let here : f n ≡ true = h n (omega arith) (omega arith) in
    rw here (ap (λ (l : List ℕ). x ∷ l) (all_chosen f (n + 1) xs (λ p a b. h p (omega arith) (omega arith))))

prefixed : (b : Bool) (x : ℕ) (xs ys zs : List ℕ) → xs ≡ ys ++ zs → cond b (x ∷ xs) xs ≡ cond b (x ∷ ys) ys ++ zs
prefixed true x xs ys zs e = ap (λ (l : List ℕ). x ∷ l) e
prefixed false x xs ys zs e = e

chosen_of_both : (f : ℕ → Bool) (n : ℕ) (xs ys : List ℕ) → at_positions f n (xs ++ ys) ≡ at_positions f n xs ++ at_positions f (n + length xs) ys
chosen_of_both f n [] ys = ap (λ (k : ℕ). at_positions f k ys) (omega arith)
chosen_of_both f n (x ∷ xs) ys =
    let e : n + 1 + length xs ≡ n + suc (length xs) = omega arith in
    let behind : at_positions f (n + 1) (xs ++ ys) ≡ at_positions f (n + 1) xs ++ at_positions f (n + suc (length xs)) ys
    = chosen_of_both f (n + 1) xs ys ∙ ap (λ (k : ℕ). at_positions f (n + 1) xs ++ at_positions f k ys) e in
    prefixed (f n) x (at_positions f (n + 1) (xs ++ ys)) (at_positions f (n + 1) xs) (at_positions f (n + suc (length xs)) ys) behind

-- a test of positions that is one of the numbers there
pub chosen_by_number : (f test : ℕ → Bool) (n : ℕ) (xs : List ℕ) → ((i : ℕ) → i < length xs → f (n + i) ≡ test (get_or xs i 0)) → at_positions f n xs ≡ filter test xs
chosen_by_number f test n [] h = refl
chosen_by_number f test n (x ∷ xs) h =
    let zeroth : n + 0 ≡ n = omega arith in
    let here : f n ≡ test x = rw zeroth at (h 0 (omega arith)) in
    let behind : at_positions f (n + 1) xs ≡ filter test xs = chosen_by_number f test (n + 1) xs (λ i l.
    let e : n + suc i ≡ n + 1 + i = omega arith in rw e at (h (suc i) (omega arith))) in
    rw (here, behind) refl

-- ---- one range, and those behind it

module _ (range : PositionRange) (rest : List PositionRange) (view : List ℕ) where
  -- the range covers none of the positions from the next one on
  pub chosen_past : (next : ℕ) → 1 ≤ next → next ≤ length view + 1 → ((p : ℕ) → next ≤ p → p ≤ length view → range.first ≤ p → p ≤ range.last → ⊥)
      → at_positions (is_covered (range ∷ rest)) next (drop (next - 1) view) ≡ at_positions (is_covered rest) next (drop (next - 1) view)
  chosen_past next one low h =
      same_choice (is_covered (range ∷ rest)) (is_covered rest) next (drop (next - 1) view)
      (λ p a b. let l : length (drop (next - 1) view) ≡ length view - (next - 1) = length-drop (next - 1) view in
      rw (outside range p (λ x y. h p a (omega (arith, b, l)) x y)) refl)

  -- it covers the positions from `first` to `last`, and no position behind these or between the next one and these
  pub chosen_here : (next first last : ℕ) → 1 ≤ next → next ≤ first → first ≤ last → last ≤ length view
      → range.first ≤ first → ((p : ℕ) → next ≤ p → p < first → p < range.first) → last ≤ range.last → ((p : ℕ) → last < p → p ≤ length view → range.last < p)
      → All (λ other. range.first ≤ other.first) rest
      → at_positions (is_covered (range ∷ rest)) next (drop (next - 1) view) ≡ take (last - (first - 1)) (drop (first - 1) view) ++ at_positions (is_covered rest) (last + 1) (drop last view)
  chosen_here next first last one a b c d before e past above =
      ap (λ (l : List ℕ). at_positions test next l) (sym cut)
      ∙ chosen_of_both test next skipped (taken ++ left)
      ∙ ap (λ (l : List ℕ). l ++ at_positions test (next + length skipped) (taken ++ left)) skips
      ∙ ap (λ (k : ℕ). at_positions test k (taken ++ left)) at_first
      ∙ chosen_of_both test first taken left
      ∙ ap (λ (l : List ℕ). l ++ at_positions test (first + length taken) left) takes
      ∙ ap (λ (k : ℕ). taken ++ at_positions test k left) at_last
      ∙ ap (λ (l : List ℕ). taken ++ l) leaves
    where
      test : ℕ → Bool
      test = is_covered (range ∷ rest)

      whole : List ℕ
      whole = drop (next - 1) view

      skipped : List ℕ
      skipped = take (first - next) whole

      taken : List ℕ
      taken = take (last - (first - 1)) (drop (first - 1) view)

      left : List ℕ
      left = drop last view

      cut : skipped ++ (taken ++ left) ≡ whole
      cut =
          let e : first - 1 + (last - (first - 1)) ≡ last = omega (arith, one, a, b) in
          let f : next - 1 + (first - next) ≡ first - 1 = omega (arith, one, a) in
          let behind : left ≡ drop (last - (first - 1)) (drop (first - 1) view)
          = sym (drop-drop (last - (first - 1)) (first - 1) view ∙ ap (λ (k : ℕ). drop k view) e) in
          let from : taken ++ left ≡ drop (first - 1) view
          = ap (λ (l : List ℕ). taken ++ l) behind ∙ take-append-drop (last - (first - 1)) (drop (first - 1) view) in
          let there : drop (first - 1) view ≡ drop (first - next) whole
          = sym (drop-drop (first - next) (next - 1) view ∙ ap (λ (k : ℕ). drop k view) f) in
          ap (λ (l : List ℕ). skipped ++ l) (from ∙ there) ∙ take-append-drop (first - next) whole

      at_first : next + length skipped ≡ first
      at_first =
          let l : length whole ≡ length view - (next - 1) = length-drop (next - 1) view in
          let k : length skipped ≡ first - next = length-take-le (first - next) whole (omega (arith, one, a, b, c, l)) in
          omega (arith, k, a)

      at_last : first + length taken ≡ last + 1
      at_last =
          let l : length (drop (first - 1) view) ≡ length view - (first - 1) = length-drop (first - 1) view in
          let k : length taken ≡ last - (first - 1) = length-take-le (last - (first - 1)) (drop (first - 1) view) (omega (arith, one, a, b, c, l)) in
          omega (arith, one, a, b, k)

      skips : at_positions test next skipped ≡ []
      skips = none_chosen test next skipped (λ p x y.
          let low : p < range.first = before p x (omega (arith, y, at_first)) in
          rw (outside range p (λ u v. omega (arith, u, low)))
          (uncovered rest p (All-weaker (λ (other : PositionRange). range.first ≤ other.first) (λ (other : PositionRange). p < other.first) (λ other h. omega (arith, h, low)) rest above)))

      takes : at_positions test first taken ≡ taken
      takes = all_chosen test first taken (λ p x y. rw (inside range p (omega (arith, x, d)) (omega (arith, y, at_last, e))) refl)

      leaves : at_positions test (last + 1) left ≡ at_positions (is_covered rest) (last + 1) left
      leaves = same_choice test (is_covered rest) (last + 1) left (λ p x y.
          let l : length left ≡ length view - last = length-drop last view in
          let high : range.last < p = past p (omega (arith, x)) (omega (arith, x, y, l)) in
          rw (outside range p (λ u v. omega (arith, v, high))) refl)

-- ---- all of the ranges, in their order

pub nothing_left : (n : ℕ) (xs : List ℕ) → at_positions (is_covered []) n xs ≡ []
nothing_left n xs = none_chosen (is_covered []) n xs (λ p a b. refl)

begin_behind : (ranges : List PositionRange) (i : ℕ) (d : PositionRange) → IsNonDecreasingBy (λ r. r.first) ranges → i < length ranges
    → All (λ other. (get_or ranges i d).first ≤ other.first) (drop (i + 1) ranges)
begin_behind ranges i d order l k e within =
    let size : length (drop (i + 1) ranges) ≡ length ranges - (i + 1) = length-drop (i + 1) ranges in
    let there : get_or (drop (i + 1) ranges) k d ≡ get_or ranges (i + 1 + k) d = get_or-drop (i + 1) ranges k d in
    rw (get_or_default (drop (i + 1) ranges) k e d within) (rw there (order i (i + 1 + k) d (omega arith) (omega (arith, within, size))))

-- what is still to be chosen after one range more
pub one_range_more : (ranges : List PositionRange) (i : ℕ) (d : PositionRange) (view old new whole : List ℕ) (next after : ℕ)
    → IsNonDecreasingBy (λ r. r.first) ranges → i < length ranges
    → ((rest : List PositionRange) → All (λ other. (get_or ranges i d).first ≤ other.first) rest
    → old ++ at_positions (is_covered (get_or ranges i d ∷ rest)) next (drop (next - 1) view) ≡ new ++ at_positions (is_covered rest) after (drop (after - 1) view))
    → old ++ at_positions (is_covered (drop i ranges)) next (drop (next - 1) view) ≡ whole
    → new ++ at_positions (is_covered (drop (i + 1) ranges)) after (drop (after - 1) view) ≡ whole
one_range_more ranges i d view old new whole next after order l step left =
    let e : drop i ranges ≡ get_or ranges i d ∷ drop (i + 1) ranges = rw add-one (drop-cons ranges i d l) in
    sym (step (drop (i + 1) ranges) (begin_behind ranges i d order l))
    ∙ ap (λ (rs : List PositionRange). old ++ at_positions (is_covered rs) next (drop (next - 1) view)) (sym e)
    ∙ left

-- ---- positions of UIDs, found by halving

same_test : (a b c d : ℕ) → (a ≤ b → c ≤ d) → (c ≤ d → a ≤ b) → leb a b ≡ leb c d
same_test a b c d f g = elim (leb_tells a b) [
  | inl x ↦ elim (leb_tells c d) [
    | inl y ↦ x.0 ∙ sym y.0
    | inr y ↦ let h = f x.1 in absurd (omega (arith, y.1, h))
  ]
  | inr x ↦ elim (leb_tells c d) [
    | inl y ↦ let h = g y.1 in absurd (omega (arith, x.1, h))
    | inr y ↦ x.0 ∙ sym y.0
  ]
]

pub halved_twice : (low high : ℕ) (view : List ℕ) (j k : ℕ)
    → IsPartitionPoint (λ u. ltb u low ≡ true) (λ u. ltb u low ≡ false) view j → IsPartitionPoint (λ u. leb u high ≡ true) (λ u. leb u high ≡ false) view k
    → (i : ℕ) → i < length view → is_within (record { first = j + 1; last = k }) (i + 1) ≡ (leb low (get_or view i 0) && leb (get_or view i 0) high)
halved_twice low high view j k from to i l =
    let begins : leb (j + 1) (i + 1) ≡ leb low (get_or view i 0) = same_test (j + 1) (i + 1) low (get_or view i 0)
    (λ h. let t = ltb-false _ _ (from.1 i 0 (omega (arith, h)) l) in omega (arith, t))
    (λ h. elim (cases_lt i j) [
      | inl before ↦ let t = ltb-true _ _ (from.0 i 0 (omega arith) before) in absurd (omega (arith, t, h))
      | inr behind ↦ omega (arith, behind)
    ]) in
    let ends : leb (i + 1) k ≡ leb (get_or view i 0) high = same_test (i + 1) k (get_or view i 0) high
    (λ h. leb-true _ _ (to.0 i 0 (omega arith) (omega (arith, h))))
    (λ h. elim (cases_lt i k) [
      | inl before ↦ omega (arith, before)
      | inr behind ↦ let t = leb-false _ _ (to.1 i 0 behind l) in absurd (omega (arith, t, h))
    ]) in
    rw (begins, ends) refl
