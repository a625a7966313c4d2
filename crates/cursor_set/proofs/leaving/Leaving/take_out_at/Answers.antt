use Rattle.std.proofs.Common.{◌≡◌, ◌-◌, ◌∙◌, ◌++◌, ℕ, Bool, List, ap, sym, subst, arith}
use Rattle.std.specs.Prelude.{if◌then◌else◌, insert, remove}
use Rattle.std.specs.List.Sorted.{IsStrictlyIncreasing}
use Rattle.cursor_set.specs.Leaving.{counted, AreIn}
use Rattle.cursor_set.proofs.LeavingLaws.{below_few, put_in, put_counted, still_rises, still_rises_without}
use Rattle.cursor_set.proofs.leaving.Leaving.take_out_at.Goals as goal

pub insert-requires : goal.insert-requires
insert-requires c =
    let few = below_few c.args.index c.args.self.now.gone.items c.args.view.now.items c.requires.gone in
    omega (arith, few.1, c.requires.before)

pub returns-then-len-capacity-clause-gone : goal.returns-then-len-capacity-clause-gone
returns-then-len-capacity-clause-gone c =
    let gone = c.args.self.now.gone.items in
    let view = c.args.view.now.items in
    let i = c.args.index in
    let is = c.insert.ensures.items ∙ ap (λ (b : Bool). if b then insert gone c.args.before i else gone) (c.insert.ensures.succeeds (omega (arith, c.len.ensures, c.capacity.ensures, c.if-len-capacity.true)))
    ∙ ap (λ (n : ℕ). insert gone n i) c.requires.before in
    subst (λ (xs : List ℕ). AreIn xs view) (sym is) (put_in gone view i c.requires.gone c.requires.index c.requires.counts)

pub returns-then-len-capacity-clause-counted : goal.returns-then-len-capacity-clause-counted
returns-then-len-capacity-clause-counted c =
    let gone = c.args.self.now.gone.items in
    let view = c.args.view.now.items in
    let i = c.args.index in
    let is = c.insert.ensures.items ∙ ap (λ (b : Bool). if b then insert gone c.args.before i else gone) (c.insert.ensures.succeeds (omega (arith, c.len.ensures, c.capacity.ensures, c.if-len-capacity.true)))
    ∙ ap (λ (n : ℕ). insert gone n i) c.requires.before in
    ap (λ (xs : List ℕ). counted xs view) is ∙ put_counted gone view i c.requires.gone c.requires.index c.requires.counts
    ∙ sym (ap (λ (n : ℕ). remove (counted gone view) (i - n)) c.requires.before)

pub overflow_sub-index : goal.overflow_sub-index
overflow_sub-index c =
    let few = below_few c.args.index c.args.self.now.gone.items c.args.view.now.items c.requires.gone in
    omega (arith, few.0, c.requires.before)

pub returns-clause-rising : goal.returns-clause-rising
returns-clause-rising c = λ later h.
    let gone = c.args.self.now.gone.items in
    let view = c.args.view.now.items in
    let at = c.args.index - c.args.before in
    let up : IsStrictlyIncreasing (view ++ later) = h in
    let left : c.remove.new.self.items ≡ remove (counted gone view) at = c.remove.ensures.items ∙ ap (λ (xs : List ℕ). remove xs at) c.close.ensures.items in
    subst (λ (xs : List ℕ). IsStrictlyIncreasing (xs ++ later)) (sym left) (still_rises_without (counted gone view) later at (still_rises gone view later up))
