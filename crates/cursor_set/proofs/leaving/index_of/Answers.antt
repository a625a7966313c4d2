use Rattle.std.proofs.Common.{ℕ, ◌<◌, ◌≡◌, length, get_or, Contains, subst}
use Rattle.std.specs.Prelude.{MatchResult, Result}
use Rattle.cursor_set.proofs.Positions.{searched_at}
use Rattle.cursor_set.proofs.leaving.index_of.Goals as goal

pub unreachable-requires : goal.unreachable-requires
unreachable-requires c =
    let says = searched_at c.args.view.now c.args.uid c.binary_search.result c.binary_search.ensures.position c.requires.rising in
    let no = subst (λ (r : Result ℕ ℕ). MatchResult r (λ k. (k < length c.args.view.now) × (get_or c.args.view.now k 0 ≡ c.args.uid)) (λ k. Contains c.args.view.now c.args.uid → ⊥)) c.in-Err.is says in
    no c.requires.there
