-- Whether a set names a message of a view: range by range, and of one range by its positions.
use Rattle.std.proofs.Common.{◌≡◌, true≢false, ℕ, ◌+◌, ◌<◌, ◌≤◌, Bool, true, false, cond, leb, List, [], ◌∷◌, ◌++◌, length, get_or, refl, ap, sym, subst, ◌∙◌, inl, inr, arith}
use Rattle.std.specs.Prelude.{Some, None, max, min, ◌||◌}
use Rattle.std.specs.List.{filter}
use Rattle.std.specs.Option.{option_to_list}
use Rattle.std.proofs.Math.Nat.{le-max_left, le-max_right, max-le, min-le_left, min-le_right, le-min}
use Rattle.std.proofs.lemmas.Bool.Decides.{leb_tells}
use Rattle.std.proofs.lemmas.List.Folds.{list_any-append}
use Rattle.imap_grammar.specs.Cuts.{cut_at}
use Rattle.imap_grammar.specs.Sets.{numeric, is_between, is_named, is_one_there, at_positions, last_uid, range_of, ranges_of}
use Rattle.imap_grammar.specs.inner.Choosing.{chosen_of, is_within, positions_of}
use Rattle.imap_grammar.specs.declared.positions.PositionRange.{PositionRange}
use Rattle.imap_grammar.specs.declared.set.SeqRange.{SeqRange}
use Rattle.imap_grammar.proofs.ChosenAt.{chosen_by_number, inside, none_chosen, outside, same_choice}
use Rattle.imap_grammar.proofs.SetParts.{ranges_cut, ranges_end}

abbrev some_named : Bool → List SeqRange → List ℕ → Bool
some_named by_uid set view = is_one_there (Some (chosen_of by_uid set view))

-- ---- one range after the other

or_true : (b : Bool) → true ≡ (b || true)
or_true true = refl
or_true false = refl

or_false : (b : Bool) → b ≡ (b || false)
or_false true = refl
or_false false = refl

either : (s t : Bool) (x : ℕ) (xs ys zs : List ℕ) → is_one_there (Some xs) ≡ (is_one_there (Some ys) || is_one_there (Some zs))
    → is_one_there (Some (cond (s || t) (x ∷ xs) xs)) ≡ (is_one_there (Some (cond s (x ∷ ys) ys)) || is_one_there (Some (cond t (x ∷ zs) zs)))
either true t x xs ys zs h = refl
either false true x xs ys zs h = or_true (is_one_there (Some ys))
either false false x xs ys zs h = h

of_both : (f s t : ℕ → Bool) (xs : List ℕ) → ((n : ℕ) → f n ≡ (s n || t n))
    → is_one_there (Some (filter f xs)) ≡ (is_one_there (Some (filter s xs)) || is_one_there (Some (filter t xs)))
of_both f s t [] h = refl
of_both f s t (x ∷ xs) h =
    ap (λ (b : Bool). is_one_there (Some (cond b (x ∷ filter f xs) (filter f xs)))) (h x)
    ∙ either (s x) (t x) x (filter f xs) (filter s xs) (filter t xs) (of_both f s t xs h)

at_both : (f s t : ℕ → Bool) (n : ℕ) (xs : List ℕ) → ((p : ℕ) → f p ≡ (s p || t p))
    → is_one_there (Some (at_positions f n xs)) ≡ (is_one_there (Some (at_positions s n xs)) || is_one_there (Some (at_positions t n xs)))
at_both f s t n [] h = refl
at_both f s t n (x ∷ xs) h =
    ap (λ (b : Bool). is_one_there (Some (cond b (x ∷ at_positions f (n + 1) xs) (at_positions f (n + 1) xs)))) (h n)
    ∙ either (s n) (t n) x (at_positions f (n + 1) xs) (at_positions s (n + 1) xs) (at_positions t (n + 1) xs) (at_both f s t (n + 1) xs h)

named_both : (a b : List SeqRange) (greatest n : ℕ) → is_named (a ++ b) greatest n ≡ (is_named a greatest n || is_named b greatest n)
named_both a b greatest n = list_any-append (λ range. is_between (numeric greatest range.from) (numeric greatest range.to) n) a b

some_joined : (by_uid : Bool) (a b : List SeqRange) (view : List ℕ) → some_named by_uid (a ++ b) view ≡ (some_named by_uid a view || some_named by_uid b view)
some_joined true a b view =
    of_both (is_named (a ++ b) (last_uid view)) (is_named a (last_uid view)) (is_named b (last_uid view)) view (named_both a b (last_uid view))
some_joined false a b view =
    at_both (is_named (a ++ b) (length view)) (is_named a (length view)) (is_named b (length view)) 1 view (named_both a b (length view))

pub some_step : (by_uid : Bool) (rest part others view : List ℕ) → Some (part, others) ≡ cut_at 44 rest
    → some_named by_uid (ranges_of rest) view ≡ (some_named by_uid (option_to_list (range_of part)) view || some_named by_uid (ranges_of others) view)
some_step by_uid rest part others view h =
    ap (λ (ranges : List SeqRange). some_named by_uid ranges view) (ranges_cut rest part others h)
    ∙ some_joined by_uid (option_to_list (range_of part)) (ranges_of others) view

pub some_end : (by_uid : Bool) (rest view : List ℕ) → None ≡ cut_at 44 rest
    → some_named by_uid (ranges_of rest) view ≡ some_named by_uid (option_to_list (range_of rest)) view
some_end by_uid rest view h = ap (λ (ranges : List SeqRange). some_named by_uid ranges view) (ranges_end rest h)

no_uid : (greatest : ℕ) (xs : List ℕ) → is_one_there (Some (filter (is_named [] greatest) xs)) ≡ false
no_uid greatest [] = refl
no_uid greatest (x ∷ xs) = no_uid greatest xs

no_position : (greatest n : ℕ) (xs : List ℕ) → is_one_there (Some (at_positions (is_named [] greatest) n xs)) ≡ false
no_position greatest n [] = refl
no_position greatest n (x ∷ xs) = no_position greatest (n + 1) xs

-- no range names nothing
pub none_named : (by_uid : Bool) (view : List ℕ) → some_named by_uid [] view ≡ false
none_named true view = no_uid (last_uid view) view
none_named false view = no_position (length view) 1 view

-- ---- one range

one_first : (f : ℕ → Bool) (n x : ℕ) (tail : List ℕ) (b : Bool) → f n ≡ b → (b ≡ false → is_one_there (Some tail) ≡ true)
    → is_one_there (Some (cond (f n) (x ∷ tail) tail)) ≡ true
one_first f n x tail true e h = rw e refl
one_first f n x tail false e h = rw e (h refl)

past_first : (f : ℕ → Bool) (n p : ℕ) → n ≤ p → f n ≡ false → f p ≡ true → n + 1 ≤ p
past_first f n p low not here = elim (leb_tells (n + 1) p) [
  | inl h ↦ h.1
  | inr h ↦ let same : p ≡ n = omega (arith, low, h.1) in absurd (true≢false (sym (rw same at here) ∙ not))
]

some_at : (f : ℕ → Bool) (n : ℕ) (xs : List ℕ) (p : ℕ) → n ≤ p → p < n + length xs → f p ≡ true → is_one_there (Some (at_positions f n xs)) ≡ true
some_at f n [] p low high here = absurd (omega (arith, low, high))
some_at f n (x ∷ xs) p low high here =
    one_first f n x (at_positions f (n + 1) xs) (f n) refl (λ e. some_at f (n + 1) xs p (past_first f n p low e here) (omega (arith, high)) here)

-- a range covers a position of a view where it begins in it and ends in it
covered : (range : PositionRange) (view : List ℕ)
    → leb (max range.first 1) (min range.last (length view)) ≡ is_one_there (Some (at_positions (is_within range) 1 view))
covered range view = elim (leb_tells (max range.first 1) (min range.last (length view))) [
  | inl h ↦
      let p : ℕ = max range.first 1 in
      let first : range.first ≤ p = le-max_left range.first 1 in
      let one : 1 ≤ p = le-max_right range.first 1 in
      let last : min range.last (length view) ≤ range.last = min-le_left range.last (length view) in
      let end : min range.last (length view) ≤ length view = min-le_right range.last (length view) in
      h.0 ∙ sym (some_at (is_within range) 1 view p one (omega (arith, h.1, end)) (inside range p first (omega (arith, h.1, last))))
  | inr h ↦
      h.0 ∙ sym (ap (λ (l : List ℕ). is_one_there (Some l)) (none_chosen (is_within range) 1 view (λ p low high. outside range p (λ x y.
      let begins : max range.first 1 ≤ p = max-le x low in
      let ends : p ≤ min range.last (length view) = le-min y (omega (arith, high)) in
      omega (arith, begins, ends, h.1)))))
]

pub position_there : (range : SeqRange) (positions : PositionRange) (count : ℕ) (view : List ℕ) → positions ≡ positions_of count range → length view ≡ count
    → leb (max positions.first 1) (min positions.last count) ≡ some_named false (range ∷ []) view
position_there range positions count view e l =
    subst (λ (n : ℕ). leb (max positions.first 1) (min positions.last n) ≡ some_named false (range ∷ []) view) l
    (covered positions view
    ∙ ap (λ (chosen : List ℕ). is_one_there (Some chosen)) (same_choice (is_within positions) (is_named (range ∷ []) (length view)) 1 view (λ p a b. same p)))
  where
    same : (p : ℕ) → is_within positions p ≡ is_named (range ∷ []) (length view) p
    same p = ap (λ (r : PositionRange). is_within r p) (e ∙ ap (λ (n : ℕ). positions_of n range) (sym l)) ∙ or_false (is_within (positions_of (length view) range) p)

pub uid_there : (range : SeqRange) (positions : PositionRange) (greatest : ℕ) (view : List ℕ) → greatest ≡ last_uid view
    → ((i : ℕ) → i < length view → is_within positions (i + 1) ≡ is_between (numeric greatest range.from) (numeric greatest range.to) (get_or view i 0))
    → leb (max positions.first 1) (min positions.last (length view)) ≡ some_named true (range ∷ []) view
uid_there range positions greatest view e h =
    covered positions view
    ∙ ap (λ (chosen : List ℕ). is_one_there (Some chosen)) (chosen_by_number (is_within positions) (is_named (range ∷ []) (last_uid view)) 1 view (λ i l. same i l))
  where
    same : (i : ℕ) → i < length view → is_within positions (1 + i) ≡ is_named (range ∷ []) (last_uid view) (get_or view i 0)
    same i l =
        let p : 1 + i ≡ i + 1 = omega arith in
        ap (λ (n : ℕ). is_within positions n) p
        ∙ h i l
        ∙ ap (λ (g : ℕ). is_between (numeric g range.from) (numeric g range.to) (get_or view i 0)) e
        ∙ or_false (is_between (numeric (last_uid view) range.from) (numeric (last_uid view) range.to) (get_or view i 0))
