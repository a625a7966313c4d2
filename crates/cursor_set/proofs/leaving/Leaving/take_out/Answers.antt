use Rattle.std.proofs.Common.{◌≡◌, ◌<◌, ◌-◌, ◌+◌, ◌∙◌, ℕ, List, length, get_or, Contains, ap, sym, subst, arith}
use Rattle.std.specs.Prelude.{remove}
use Rattle.std.specs.List.Sorted.{IsStrictlyIncreasing}
use Rattle.cursor_set.specs.Leaving.{counted, AreIn}
use Rattle.change_ring.specs.View.{position}
use Rattle.cursor_set.proofs.LeavingLaws.{IsFound, in_view, found}
use Rattle.cursor_set.proofs.Positions.{remove_position}
use Rattle.cursor_set.proofs.leaving.Leaving.take_out.Goals as goal

-- where the search was in a slice that is the view
found_in : (gone view xs : List ℕ) (uid i : ℕ) → xs ≡ view → AreIn gone view → IsStrictlyIncreasing view → Contains (counted gone view) uid → i < length xs → get_or xs i 0 ≡ uid → IsFound gone view uid i
found_in gone view xs uid i same h up there within at =
    found gone view uid h up there i (subst (λ (ys : List ℕ). i < length ys) same within) (subst (λ (ys : List ℕ). get_or ys i 0 ≡ uid) same at)

pub index_near-index-requires-clause-there : goal.index_near-index-requires-clause-there
index_near-index-requires-clause-there c =
    subst (λ (xs : List ℕ). Contains xs c.args.uid) (sym c.deref.ensures.value)
    (in_view c.args.self.now.gone.items c.args.view.now.items c.args.uid c.requires.gone c.requires.rising c.requires.there)

pub take_out_at-requires-clause-within : goal.take_out_at-requires-clause-within
take_out_at-requires-clause-within c =
    let f = found_in c.args.self.now.gone.items c.args.view.now.items c.deref.result.now c.args.uid c.index_near-index.result c.deref.ensures.value c.requires.gone c.requires.rising c.requires.there c.index_near-index.ensures.within c.index_near-index.ensures.there in
    omega (arith, f.within, c.below-before.ensures)

pub take_out_at-requires-clause-counts : goal.take_out_at-requires-clause-counts
take_out_at-requires-clause-counts c =
    let f = found_in c.args.self.now.gone.items c.args.view.now.items c.deref.result.now c.args.uid c.index_near-index.result c.deref.ensures.value c.requires.gone c.requires.rising c.requires.there c.index_near-index.ensures.within c.index_near-index.ensures.there in
    f.others

pub overflow_sub-result : goal.overflow_sub-result
overflow_sub-result c =
    let f = found_in c.args.self.now.gone.items c.args.view.now.items c.deref.result.now c.args.uid c.index_near-index.result c.deref.ensures.value c.requires.gone c.requires.rising c.requires.there c.index_near-index.ensures.within c.index_near-index.ensures.there in
    omega (arith, f.low, c.below-before.ensures)

pub returns-clause-counted : goal.returns-clause-counted
returns-clause-counted c =
    let f = found_in c.args.self.now.gone.items c.args.view.now.items c.deref.result.now c.args.uid c.index_near-index.result c.deref.ensures.value c.requires.gone c.requires.rising c.requires.there c.index_near-index.ensures.within c.index_near-index.ensures.there in
    let left = counted c.args.self.now.gone.items c.args.view.now.items in
    let at : c.index_near-index.result - c.below-before.result ≡ position c.args.uid left - 1 = omega (arith, f.position, c.below-before.ensures) in
    c.take_out_at.ensures.counted ∙ ap (remove left) at ∙ remove_position c.args.uid left

pub returns-clause-position : goal.returns-clause-position
returns-clause-position c =
    let f = found_in c.args.self.now.gone.items c.args.view.now.items c.deref.result.now c.args.uid c.index_near-index.result c.deref.ensures.value c.requires.gone c.requires.rising c.requires.there c.index_near-index.ensures.within c.index_near-index.ensures.there in
    ap (λ (n : ℕ). c.index_near-index.result - n + 1) c.below-before.ensures ∙ f.position
