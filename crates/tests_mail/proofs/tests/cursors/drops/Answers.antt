use Rattle.std.proofs.Common.{◌≡◌, ◌==◌, ℕ, Some, ◌∙◌}
use Rattle.std.specs.List.{position}
use Rattle.std.proofs.lemmas.Bool.{eqb-true}
use Rattle.std.proofs.lemmas.List.Quantifiers.{position-Some}
use Rattle.tests_mail.proofs.FitLaws.{removed_first}
use Rattle.tests_mail.proofs.tests.cursors.drops.Goals as goal

pub returns : goal.returns
returns c = λ _.
    let view = c.args.view.now.items in
    let uid = c.args.uid in
    let index = c.in-Some.index in
    let found : position (λ (other : ℕ). other == uid) view ≡ Some index = cc in
    let first = position-Some (λ (other : ℕ). other == uid) view index 0 found in
    let there = position-Some (λ (other : ℕ). other == uid) view index uid found in
    ((index, there.0, eqb-true _ uid there.1), c.remove.ensures.items ∙ removed_first uid view index first.0 first.1 first.2)
