use Rattle.std.proofs.Common.{ℕ, List, ◌<◌, sym, subst, ap, ◌∙◌}
use Rattle.std.specs.Prelude.{All, IfNone, IfSome}
use Rattle.cursor_set.specs.Cursors.{IsLeastFrom, open_numbers}
use Rattle.cursor_set.proofs.LeastLaws.{open_at}
use Rattle.cursor_set.proofs.set.CursorSet.least.Goals as goal

pub returns-clause-none : goal.returns-clause-none
returns-clause-none c =
    subst (λ (ns : List ℕ). IfNone c.least_in.result (All (λ n. n < c.args.base) ns)) (sym (open_at c.self.inside.slots.slots) ∙ ap open_numbers c.self.view_is) c.least_in.ensures.none

pub returns-clause-least : goal.returns-clause-least
returns-clause-least c =
    subst (λ (ns : List ℕ). IfSome c.least_in.result (IsLeastFrom c.args.base ns)) (sym (open_at c.self.inside.slots.slots) ∙ ap open_numbers c.self.view_is) c.least_in.ensures.least
