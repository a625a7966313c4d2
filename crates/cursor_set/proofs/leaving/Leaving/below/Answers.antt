use Rattle.std.proofs.Common.{rules, of_calls, ◌≡◌, ◌≤◌, ◌<◌, ◌-◌, ◌∙◌, ℕ, List, length, get_or, ltb, ap, subst, sym, arith}
use Rattle.std.specs.List.Sorted.{IsStrictlyIncreasing}
use Rattle.std.proofs.lemmas.Fn.{always_returns_same}
use Rattle.std.proofs.lemmas.List.Sorted.{IsPartitionedBy-ltb, IsNonDecreasingBy-from_default}
use Rattle.cursor_set.specs.inner.Leaving.{below}
use Rattle.cursor_set.proofs.LeavingLaws.{below_all, below_point}
use Rattle.cursor_set.proofs.Positions.{not_falling}
use Rattle.cursor_set.proofs.leaving.Leaving.below.Goals as goal

pub returns-then-last-index : goal.returns-then-last-index
returns-then-last-index c =
    let gs = c.args.self.now.gone.items in
    let xs = c.deref.result.now in
    let same : xs ≡ gs = c.deref.ensures.value in
    let i = c.args.index in
    let low : c.in-Some.last.now < i = c.if-last-index.true in
    let is : c.in-Some.last.now ≡ get_or xs (length xs - 1) 0 = search rules in
    let all : length xs ≡ below i xs = below_all i xs (subst IsStrictlyIncreasing (sym same) c.requires) (omega (arith, is, low)) in
    c.len.ensures ∙ sym c.deref.ensures.len ∙ all ∙ ap (below i) same

pub returns : goal.returns
returns c =
    let gs = c.args.self.now.gone.items in
    let xs = c.deref-2.result.now in
    let same : xs ≡ gs = c.deref-2.ensures.value in
    let i = c.args.index in
    let n = c.partition_point.result in
    let up = subst IsStrictlyIncreasing (sym same) c.requires in
    let point = c.partition_point.ensures.partitioned (λ (g : ℕ). ltb g i) (always_returns_same _ _ _ (λ a r f k. search (rules, of_calls)))
    (IsPartitionedBy-ltb (λ (g : ℕ). g) xs i (IsNonDecreasingBy-from_default (λ (g : ℕ). g) xs 0 (not_falling xs up))) in
    let most : n ≤ length xs = search rules in
    subst (λ (ys : List ℕ). n ≡ below i ys) same (below_point i xs n point most)
