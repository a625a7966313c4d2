use Rattle.std.proofs.Common.{◌+◌, ℕ, length, take, ap, ap₂, ◌∙◌, arith}
use Rattle.std.proofs.lemmas.List.{length-take-le}
use Rattle.change_ring.specs.Log.{changes_from}
use Rattle.cursor_set.proofs.WindowParts.{parts, next_two, lent_length}
use Rattle.cursor_set.proofs.set.lend_next.Goals as goal

pub returns-clause-changes : goal.returns-clause-changes
returns-clause-changes c =
    let len = lent_length c.args.ring.now c.args.at c.in-Ok.first.now c.in-Ok.rest.now c.requires.kept c.in-Ok.ensures.lent in
    let p = parts c.args.limit (length c.in-Ok.first.now) (length c.in-Ok.rest.now) _ c.min-taken.result c.min-more.result c.min-taken.ensures c.min-more.ensures len in
    next_two c.in-Ok.first.now c.in-Ok.rest.now (changes_from c.args.at c.args.ring.now) c.min-taken.result c.min-more.result c.in-Ok.ensures.lent p.1 p.2
    ∙ ap (λ (n : ℕ). take n (changes_from c.args.at c.args.ring.now)) p.0

pub returns-clause-count : goal.returns-clause-count
returns-clause-count c =
    let len = lent_length c.args.ring.now c.args.at c.in-Ok.first.now c.in-Ok.rest.now c.requires.kept c.in-Ok.ensures.lent in
    let p = parts c.args.limit (length c.in-Ok.first.now) (length c.in-Ok.rest.now) _ c.min-taken.result c.min-more.result c.min-taken.ensures c.min-more.ensures len in
    ap₂ (λ (m n : ℕ). m + n) (length-take-le c.min-taken.result c.in-Ok.first.now p.1) (length-take-le c.min-more.result c.in-Ok.rest.now (omega (arith, c.min-more.ensures))) ∙ p.0

pub returns-clause-small : goal.returns-clause-small
returns-clause-small c =
    let count = returns-clause-count c in
    omega (arith, count, c.requires.logged, c.total-total.ensures.small, c.total-total.ensures.total)
