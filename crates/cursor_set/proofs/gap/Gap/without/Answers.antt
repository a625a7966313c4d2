use Rattle.std.proofs.Common.{◌∙◌, ap₂, List, ℕ}
use Rattle.std.specs.Prelude.{remove}
use Rattle.cursor_set.proofs.GapLaws.{around_more}
use Rattle.cursor_set.proofs.gap.Gap.without.Goals as goal

pub returns-clause-around : goal.returns-clause-around
returns-clause-around c =
    let m = c.moved-gap in
    around_more m.result.start m.result.end m.new.view.items m.ensures.gap.rising m.ensures.gap.within
    ∙ ap₂ (λ (ys : List ℕ) (k : ℕ). remove ys k) m.ensures.around m.ensures.start
