use Rattle.std.proofs.Common.{◌≡◌, ◌+◌, ◌++◌, ◌∷◌, [], ◌∙◌, ℕ, List, length, ap, sym, subst, length-append}
use Rattle.std.specs.List.Sorted.{IsStrictlyIncreasing}
use Rattle.change_ring.specs.declared.change.Change.{Change}
use Rattle.change_ring.specs.Log.{added, shown}
use Rattle.cursor_set.specs.Leaving.{counted}
use Rattle.cursor_set.specs.Lines.{line, exists_line}
use Rattle.cursor_set.proofs.LeavingLaws.{added_counted}
use Rattle.cursor_set.proofs.ShowLaws.{rises_after_add}
use Rattle.cursor_set.proofs.lines.show_change.Goals as goal

pub returns-in-Add-clause-view : goal.returns-in-Add-clause-view
returns-in-Add-clause-view c =
    let gone = c.args.leaving.now.gone.items in
    let view = c.args.view.now.items in
    ap (counted gone) c.push_reserved.ensures.items ∙ added_counted gone view c.in-Add.uid c.requires.gone
    ∙ ap (shown (counted gone view)) (sym c.in-Add.is)

pub returns-in-Add-clause-rising : goal.returns-in-Add-clause-rising
returns-in-Add-clause-rising c = λ later h.
    let view = c.args.view.now.items in
    let up : IsStrictlyIncreasing (view ++ added (c.args.change ∷ later)) = h in
    subst (λ (xs : List ℕ). IsStrictlyIncreasing (xs ++ added later)) (sym c.push_reserved.ensures.items)
    (rises_after_add view c.in-Add.uid later (subst (λ (x : Change). IsStrictlyIncreasing (view ++ added (x ∷ later))) c.in-Add.is up))

pub returns-in-Add-clause-text : goal.returns-in-Add-clause-text
returns-in-Add-clause-text c =
    let gone = c.args.leaving.now.gone.items in
    let view = c.args.view.now.items in
    let now : counted gone c.deref.result.now ≡ counted gone view ++ c.in-Add.uid ∷ [] =
    ap (counted gone) (c.deref.ensures.value ∙ c.push_reserved.ensures.items) ∙ added_counted gone view c.in-Add.uid c.requires.gone in
    let count : c.count.result ≡ length (counted gone view) + 1 = c.count.ensures ∙ ap length now ∙ length-append (counted gone view) (c.in-Add.uid ∷ []) in
    c.put_numbered.ensures.items ∙ ap (λ (n : ℕ). c.args.out.now.items ++ exists_line n) count
    ∙ ap (λ (x : Change). c.args.out.now.items ++ line (counted gone view) x) (sym c.in-Add.is)
