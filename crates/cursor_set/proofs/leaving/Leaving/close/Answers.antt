use Rattle.std.proofs.Common.{◌≡◌, ◌<◌, ◌≤◌, ◌-◌, ◌∙◌, ℕ, List, length, take, get_or, ap, ap₂, refl, sym, subst, arith}
use Rattle.std.specs.Prelude.{remove}
use Rattle.std.proofs.lemmas.List.{take_all}
use Rattle.cursor_set.specs.declared.gap.Gap.{Gap}
use Rattle.cursor_set.specs.Gap.{around}
use Rattle.cursor_set.specs.Leaving.{counted}
use Rattle.cursor_set.proofs.LeavingLaws.{close_more, close_climbs, close_room, close_spread}
use Rattle.cursor_set.proofs.leaving.Leaving.close.Goals as goal

pub loop-before-init : goal.loop-before-init
loop-before-init c =
    let start : c.none-gap.result.start ≡ 0 = ap (λ (g : Gap). g.start) c.none-gap.ensures in
    let end : c.none-gap.result.end ≡ 0 = ap (λ (g : Gap). g.end) c.none-gap.ensures in
    record {
      gap = record { rising = omega (arith, start, end); within = omega (arith, end) };
      around = ap (λ (g : Gap). around g c.args.view.now.items) c.none-gap.ensures;
      up = λ j le l. omega (arith, start, close_climbs c.args.self.now.gone.items c.args.view.now.items c.requires j l);
      len = refl;
      capacity = refl;
    }

pub overflow_sub-index : goal.overflow_sub-index
overflow_sub-index c =
    let gone = c.args.self.now.gone.items in
    let k = c.loop-before.before in
    let same : c.deref-index-items.result.now ≡ gone = c.deref-index-items.ensures.value in
    let within : k < length gone = subst (λ (xs : List ℕ). k < length xs) same c.loop-before-test.true in
    subst (λ (xs : List ℕ). k ≤ get_or xs k 0) (sym same) (close_climbs gone c.args.view.now.items c.requires k within)

pub without-gap-requires-clause-within : goal.without-gap-requires-clause-within
without-gap-requires-clause-within c =
    let gone = c.args.self.now.gone.items in
    let k = c.loop-before.before in
    let same : c.deref-index-items.result.now ≡ gone = c.deref-index-items.ensures.value in
    let within : k < length gone = subst (λ (xs : List ℕ). k < length xs) same c.loop-before-test.true in
    subst (λ (xs : List ℕ). get_or xs k 0 - k < length (around c.loop-before.gap c.loop-before.view.items)) (sym same)
    (subst (λ (xs : List ℕ). get_or gone k 0 - k < length xs) (sym c.loop-before.invariant.around) (close_room gone c.args.view.now.items c.requires k within))

pub without-gap-requires-clause-up : goal.without-gap-requires-clause-up
without-gap-requires-clause-up c =
    let gone = c.args.self.now.gone.items in
    let k = c.loop-before.before in
    let same : c.deref-index-items.result.now ≡ gone = c.deref-index-items.ensures.value in
    let within : k < length gone = subst (λ (xs : List ℕ). k < length xs) same c.loop-before-test.true in
    let up = c.loop-before.invariant.up k (omega arith) within in
    subst (λ (xs : List ℕ). c.loop-before.gap.start ≤ get_or xs k 0 - k) (sym same) (omega (arith, up))

pub loop-before-preserved : goal.loop-before-preserved
loop-before-preserved c =
    let gone = c.args.self.now.gone.items in
    let view = c.args.view.now.items in
    let k = c.loop-before.before in
    let same : c.deref-index-items.result.now ≡ gone = c.deref-index-items.ensures.value in
    let within : k < length gone = subst (λ (xs : List ℕ). k < length xs) same c.loop-before-test.true in
    let index : get_or c.deref-index-items.result.now k 0 ≡ get_or gone k 0 = ap (λ (xs : List ℕ). get_or xs k 0) same in
    let step = c.without-gap.ensures in
    record {
      gap = step.gap;
      around = step.around ∙ ap₂ (λ (xs : List ℕ) (n : ℕ). remove xs (n - k)) c.loop-before.invariant.around index ∙ sym (close_more gone view c.requires k within);
      up = λ j le l. omega (arith, step.start, index, close_spread gone view c.requires k within j (omega (arith, le)) l);
      len = step.len ∙ c.loop-before.invariant.len;
      capacity = step.capacity ∙ c.loop-before.invariant.capacity;
    }

pub returns-clause-items : goal.returns-clause-items
returns-clause-items c =
    let gone = c.args.self.now.gone.items in
    let same : c.deref-index-items.result.now ≡ gone = c.deref-index-items.ensures.value in
    let k = c.loop-before.before in
    let all : take k gone ≡ gone = take_all k gone (subst (λ (xs : List ℕ). length xs ≤ k) same c.loop-before-test.false) in
    c.close.ensures.items ∙ c.loop-before.invariant.around ∙ ap (λ (xs : List ℕ). counted xs c.args.view.now.items) all
