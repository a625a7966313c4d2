use Rattle.std.proofs.Common.{◌-◌, ◌+◌, ℕ, arith, ap, ◌∙◌}
use Rattle.cursor_set.proofs.LeavingLaws.{in_view, found}
use Rattle.cursor_set.proofs.leaving.Leaving.position.Goals as goal

pub index_near-index-requires-clause-there : goal.index_near-index-requires-clause-there
index_near-index-requires-clause-there c = in_view c.args.self.now.gone.items c.args.view.now c.args.uid c.requires.gone c.requires.rising c.requires.there

pub overflow_sub-result : goal.overflow_sub-result
overflow_sub-result c =
    let f = found c.args.self.now.gone.items c.args.view.now c.args.uid c.requires.gone c.requires.rising c.requires.there c.index_near-index.result c.index_near-index.ensures.within c.index_near-index.ensures.there in
    omega (arith, f.low, c.below.ensures)

pub returns-clause-position : goal.returns-clause-position
returns-clause-position c =
    let f = found c.args.self.now.gone.items c.args.view.now c.args.uid c.requires.gone c.requires.rising c.requires.there c.index_near-index.result c.index_near-index.ensures.within c.index_near-index.ensures.there in
    ap (λ (n : ℕ). c.index_near-index.result - n + 1) c.below.ensures ∙ f.position
