-- The least of some numbers that isn't below another, found one after another.
use Rattle.std.proofs.Common.{◌≡◌, ℕ, suc, ◌+◌, ◌<◌, ◌≤◌, ◌⊎◌, Bool, true, false, List, [], ◌∷◌, map, min, Option, Some, None, Contains, refl, sym, subst, ap, ◌∙◌, inl, inr, arith}
use Rattle.std.specs.Prelude.{All, IfSome, IfNone, nat_le, if◌then◌else◌, option_map}
use Rattle.std.specs.List.{filter_map}
use Rattle.std.specs.Option.{option_map_or}
use Rattle.std.proofs.lemmas.Bool.{cases_lt, leb-true, leb-false}
use Rattle.std.proofs.lemmas.List.Elements.{All-cons, All-nil}
use Rattle.slab.specs.Slab.{entries_from}
use Rattle.cursor_set.specs.declared.set.Cursor.{Cursor}
use Rattle.cursor_set.specs.Cursors.{Open, IsLeastFrom}
use Rattle.cursor_set.specs.Opened.{opened}

abbrev pub number_of : ℕ × Cursor → ℕ
number_of e = e.1.at

-- one number more
abbrev pub with_number : ℕ → Option ℕ → ℕ → Option ℕ
with_number base least n = if nat_le base n then Some (option_map_or (min n) least n) else least

abbrev pub least_after : ℕ → Option ℕ → List ℕ → Option ℕ
least_after base least [] = least
least_after base least (n ∷ ns) = least_after base (with_number base least n) ns

-- ---- what it finds

pub record Finds (base : ℕ) (least : Option ℕ) (ns : List ℕ) (result : Option ℕ) : Type 0 where
  pub none : result ≡ None → (least ≡ None) × All (λ n. n < base) ns
  pub among : (m : ℕ) → result ≡ Some m → (least ≡ Some m) ⊎ ((base ≤ m) × Contains ns m)
  pub before : (m l : ℕ) → result ≡ Some m → least ≡ Some l → m ≤ l
  pub lowest : (m : ℕ) → result ≡ Some m → All (λ n. base ≤ n → m ≤ n) ns

some_same : {m n : ℕ} → Some m ≡ Some n → m ≡ n
some_same e = cc

not_none : (k : ℕ) → Some k ≡ None → ⊥
not_none k e = cc

contains_rest : (n m : ℕ) (ns : List ℕ) → Contains ns m → Contains (n ∷ ns) m
contains_rest n m ns h = (suc h.0, omega (arith, h.1), h.2)

contains_first : (n m : ℕ) (ns : List ℕ) → n ≡ m → Contains (n ∷ ns) m
contains_first n m ns e = (0, omega arith, e)

-- the number is below base
finds_below : (base : ℕ) (least : Option ℕ) (n : ℕ) (ns : List ℕ) (r : Option ℕ) → n < base → Finds base least ns r → Finds base least (n ∷ ns) r
finds_below base least n ns r low h = record {
  none = λ e. ((h.none e).0, All-cons (λ k. k < base) n ns low (h.none e).1);
  among = λ m e. elim (h.among m e) [ inl was ↦ inl was | inr there ↦ inr (there.0, contains_rest n m ns there.1) ];
  before = h.before;
  lowest = λ m e. All-cons (λ k. base ≤ k → m ≤ k) n ns (λ high. absurd (omega (arith, low, high))) (h.lowest m e);
}

-- it isn't, and none was found before
finds_first : (base n : ℕ) (ns : List ℕ) (r : Option ℕ) → base ≤ n → Finds base (Some n) ns r → Finds base None (n ∷ ns) r
finds_first base n ns r high h = record {
  none = λ e. absurd (not_none n (h.none e).0);
  among = λ m e. elim (h.among m e) [
    | inl was ↦ let same : n ≡ m = some_same was in inr (omega (arith, same, high), contains_first n m ns same)
    | inr there ↦ inr (there.0, contains_rest n m ns there.1)
  ];
  before = λ m l e was. absurd (not_none l (sym was));
  lowest = λ m e. All-cons (λ k. base ≤ k → m ≤ k) n ns (λ _. h.before m n e refl) (h.lowest m e);
}

-- it isn't, and one was found before
finds_more : (base l n : ℕ) (ns : List ℕ) (r : Option ℕ) → base ≤ n → Finds base (Some (min n l)) ns r → Finds base (Some l) (n ∷ ns) r
finds_more base l n ns r high h = record {
  none = λ e. absurd (not_none (min n l) (h.none e).0);
  among = λ m e. elim (h.among m e) [
    | inl was ↦ let same : min n l ≡ m = some_same was in elim (cases_lt n l) [
      | inl less ↦ let is : n ≡ m = omega (arith, same, less) in inr (omega (arith, is, high), contains_first n m ns is)
      | inr more ↦ let is : l ≡ m = omega (arith, same, more) in inl (ap (λ (k : ℕ). Some k) is)
    ]
    | inr there ↦ inr (there.0, contains_rest n m ns there.1)
  ];
  before = λ m k e was. let same : l ≡ k = some_same was in let low : m ≤ min n l = h.before m (min n l) e refl in omega (arith, low, same);
  lowest = λ m e. let low : m ≤ min n l = h.before m (min n l) e refl in All-cons (λ k. base ≤ k → m ≤ k) n ns (λ _. omega (arith, low)) (h.lowest m e);
}

finds_next : (base : ℕ) (least : Option ℕ) (n : ℕ) (ns : List ℕ) (b : Bool) → nat_le base n ≡ b → ((acc : Option ℕ) → Finds base acc ns (least_after base acc ns)) →
    Finds base least (n ∷ ns) (least_after base (if b then Some (option_map_or (min n) least n) else least) ns)
finds_next base None n ns true e h = finds_first base n ns _ (leb-true base n e) (h (Some n))
finds_next base (Some l) n ns true e h = finds_more base l n ns _ (leb-true base n e) (h (Some (min n l)))
finds_next base least n ns false e h = finds_below base least n ns _ (leb-false base n e) (h least)

finds : (base : ℕ) (least : Option ℕ) (ns : List ℕ) → Finds base least ns (least_after base least ns)
finds base least [] = record {
  none = λ e. (e, All-nil (λ n. n < base));
  among = λ m e. inl e;
  before = λ m l e was. let same : m ≡ l = some_same (sym e ∙ was) in omega (arith, same);
  lowest = λ m e. All-nil (λ n. base ≤ n → m ≤ n);
}
finds base least (n ∷ ns) = finds_next base least n ns (nat_le base n) refl (λ acc. finds base acc ns)

-- what is found from the start
found : (base : ℕ) (ns : List ℕ) (r : Option ℕ) → Finds base None ns r → IfNone r (All (λ n. n < base) ns) × IfSome r (IsLeastFrom base ns)
found base ns None h = ((h.none refl).1, tt)
found base ns (Some m) h =
    let at : (base ≤ m) × Contains ns m = elim (h.among m refl) [ inl was ↦ absurd (not_none m (sym was)) | inr there ↦ there ] in
    (tt, record { from = at.0; among = at.1; least = h.lowest m refl })

pub least_is : (base : ℕ) (ns : List ℕ) (r : Option ℕ) → r ≡ least_after base None ns → IfNone r (All (λ n. n < base) ns) × IfSome r (IsLeastFrom base ns)
least_is base ns r e = found base ns r (subst (Finds base None ns) (sym e) (finds base None ns))

-- ---- the numbers in a slab

pub numbers_of : (k : ℕ) (slots : List (Option Cursor)) → map number_of (entries_from k slots) ≡ map (λ (c : Cursor). c.at) (filter_map (λ (slot : Option Cursor). slot) slots)
numbers_of k [] = refl
numbers_of k (None ∷ slots) = numbers_of (k + 1) slots
numbers_of k (Some c ∷ slots) = ap (λ (ns : List ℕ). c.at ∷ ns) (numbers_of (k + 1) slots)

pub open_at : (slots : List (Option Cursor)) → filter_map (option_map (λ (o : Open). o.at)) (opened slots) ≡ map (λ (c : Cursor). c.at) (filter_map (λ (slot : Option Cursor). slot) slots)
open_at [] = refl
open_at (None ∷ slots) = open_at slots
open_at (Some c ∷ slots) = ap (λ (ns : List ℕ). c.at ∷ ns) (open_at slots)
