use Rattle.std.proofs.Common.{ℕ, List, Contains, sym, subst}
use Rattle.std.specs.List.Sorted.{IsStrictlyIncreasing}
use Rattle.std.proofs.lemmas.List.{take_rest}
use Rattle.cursor_set.proofs.Positions.{in_rest, rest_rises}
use Rattle.cursor_set.proofs.leaving.index_near.Goals as goal

pub index_of-requires-clause-there : goal.index_of-requires-clause-there
index_of-requires-clause-there c =
    let view = c.args.view.now in
    subst (λ (xs : List ℕ). Contains xs c.args.uid) (sym (take_rest view c.args.near))
    (in_rest view c.args.near c.requires.rising c.args.uid c.if-near-view.true c.if-view-near.true c.requires.there)

pub index_of-requires-clause-rising : goal.index_of-requires-clause-rising
index_of-requires-clause-rising c =
    let view = c.args.view.now in
    subst IsStrictlyIncreasing (sym (take_rest view c.args.near)) (rest_rises view c.args.near c.requires.rising)
