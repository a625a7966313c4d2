-- The moves of a seat keep the rule.
use Rattle.std.proofs.Common.{arith, ◌≡◌, ◌∙◌, ℕ, ◌+◌, ◌-◌, ◌%◌, ◌^◌, ◌<◌, ◌≤◌, Bool, true, false, leb, List, [], ◌∷◌, ◌++◌, refl, sym, ap, subst, slice_set, All}
use Rattle.std.specs.List.{slice_index}
use Rattle.std.proofs.Math.Nat.{add-mod_right, mod-add-mod}
use Rattle.std.proofs.lemmas.Bool.{leb-true, leb-false}
use Rattle.std.proofs.lemmas.Nat.{mod-mul-add}
use mathlib.Core.Option.{some}
use lib.ListN.{get_elem?}
use Rattle.atomic_table.specs.Table.{State}
use Rattle.budget.specs.declared.counting.Stay.{Stay}
use Rattle.budget.specs.Counting.{held, charged, newcomer, gone, IsShown, IsTaken, IsCounted}
use Rattle.budget.proofs.Sums.{held_end, charged_end, held_set, charged_set, charged_of_held, all_before, all_in_front}

pub newcomer_counts : {S : Type 0} (s : State S Stay) (limit : ℕ) → IsCounted limit s
    → (s.words ≡ (held (s.views ++ newcomer limit ∷ []) % 2 ^ 64) ∷ []) × (All IsShown (s.views ++ newcomer limit ∷ []) → charged (s.views ++ newcomer limit ∷ []) ≤ limit)
newcomer_counts s limit rule = (
  rule.0 ∙ ap (λ (n : ℕ). (n % 2 ^ 64) ∷ []) (sym (held_end s.views limit)),
  λ shown. let most = rule.1 (all_in_front IsShown s.views (newcomer limit) shown) in let same = charged_end s.views limit in omega (arith, most, same),
)

-- The word after a sum is changed by so much.
word_more : (words : List ℕ) (before k after m : ℕ) → words ≡ (before % m) ∷ [] → before + k ≡ after
    → slice_set words 0 ((slice_index words 0 + k) % m) ≡ (after % m) ∷ []
word_more words before k after m is more =
    subst (λ (ws : List ℕ). slice_set ws 0 ((slice_index ws 0 + k) % m) ≡ (after % m) ∷ []) (sym is)
    (ap (λ (n : ℕ). n ∷ []) (mod-add-mod before m k ∙ ap (λ (n : ℕ). n % m) more))

word_less : (words : List ℕ) (before k after m : ℕ) → words ≡ (before % m) ∷ [] → before ≡ after + k → k ≤ m
    → slice_set words 0 ((slice_index words 0 + (m - k)) % m) ≡ (after % m) ∷ []
word_less words before k after m is less few =
    let turned : before + (m - k) ≡ after + m = omega (arith, less, few) in
    subst (λ (ws : List ℕ). slice_set ws 0 ((slice_index ws 0 + (m - k)) % m) ≡ (after % m) ∷ []) (sym is)
    (ap (λ (n : ℕ). n ∷ []) (mod-add-mod before m (m - k) ∙ ap (λ (n : ℕ). n % m) turned ∙ add-mod_right after m))

small : (n : ℕ) → n < 2 ^ 64 → n % 2 ^ 64 ≡ n
small n few = ap (λ (k : ℕ). k % 2 ^ 64) (omega arith) ∙ mod-mul-add 0 (2 ^ 64) n few

-- What becomes of a seat that takes.
pub record Taken (words : List ℕ) (views : List Stay) (id limit bytes : ℕ) : Type 0 where
  pub after : Stay
  pub word : slice_set words 0 ((slice_index words 0 + bytes) % 2 ^ 64) ≡ (held (slice_set views id after) % 2 ^ 64) ∷ []
  pub most : All IsShown (slice_set views id after) → charged (slice_set views id after) ≤ limit
  pub taken : IsTaken (newcomer limit) bytes (slice_index words 0) after

pub takes : (words : List ℕ) (views : List Stay) (id limit bytes : ℕ) → words ≡ (held views % 2 ^ 64) ∷ [] → (All IsShown views → charged views ≤ limit)
    → get_elem? views id ≡ some (newcomer limit) → Taken words views id limit bytes
takes words views id limit bytes is most at = by_test (leb (slice_index words 0 + bytes) limit) refl
  where
    word : slice_index words 0 ≡ held views % 2 ^ 64
    word = ap (λ (ws : List ℕ). slice_index ws 0) is

    none_yet : IsShown (newcomer limit)
    none_yet = omega arith

    fitting : Stay
    fitting = record { limit = limit; charged = bytes; refused = 0; before = held views }

    leaving : Stay
    leaving = record { limit = limit; charged = 0; refused = bytes; before = held views }

    by_test : (b : Bool) → leb (slice_index words 0 + bytes) limit ≡ b → Taken words views id limit bytes
    by_test true test =
        let fits = leb-true (slice_index words 0 + bytes) limit test in
        record {
          after = fitting;
          word = word_more words (held views) bytes (held (slice_set views id fitting)) (2 ^ 64) is (let e = held_set views id (newcomer limit) fitting at in omega (arith, e));
          most = λ shown.
              let were = all_before IsShown views id (newcomer limit) fitting at (λ w. none_yet) shown in
              let whole : held views % 2 ^ 64 ≡ held views = small (held views) were.1 in
              let e = charged_set views id (newcomer limit) fitting at in
              let f = charged_of_held views in
              omega (arith, e, f, whole, word, fits);
          taken = (word, (λ yes. refl), (λ no. absurd (omega (arith, no, fits))));
        }
    by_test false test =
        let over = leb-false (slice_index words 0 + bytes) limit test in
        record {
          after = leaving;
          word = word_more words (held views) bytes (held (slice_set views id leaving)) (2 ^ 64) is (let e = held_set views id (newcomer limit) leaving at in omega (arith, e));
          most = λ shown.
              let were = all_before IsShown views id (newcomer limit) leaving at (λ w. none_yet) shown in
              let e = charged_set views id (newcomer limit) leaving at in
              let f = most were.0 in
              omega (arith, e, f);
          taken = (word, (λ yes. absurd (omega (arith, yes, over))), (λ no. refl));
        }

pub gives : (words : List ℕ) (views : List Stay) (id limit bytes : ℕ) (v : Stay) → words ≡ (held views % 2 ^ 64) ∷ [] → (All IsShown views → charged views ≤ limit)
    → get_elem? views id ≡ some v → v.charged + v.refused ≡ bytes → bytes ≤ 2 ^ 64
    → (slice_set words 0 ((slice_index words 0 + (2 ^ 64 - bytes)) % 2 ^ 64) ≡ (held (slice_set views id (gone v)) % 2 ^ 64) ∷ [])
    × (All IsShown (slice_set views id (gone v)) → charged (slice_set views id (gone v)) ≤ limit)
gives words views id limit bytes v is most at holds few = (
  word_less words (held views) bytes (held (slice_set views id (gone v))) (2 ^ 64) is (let e = held_set views id v (gone v) at in omega (arith, e, holds)) few,
  λ shown.
      let e = charged_set views id v (gone v) at in
      let were = all_before IsShown views id v (gone v) at (λ h. h) shown in
      let f = most were.0 in
      omega (arith, e, f),
)
