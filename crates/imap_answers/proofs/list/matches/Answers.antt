use Rattle.std.proofs.Common.{ℕ, Bool, List, false, drop, slice_index_or, ap, sym, ◌∙◌}
use Rattle.imap_answers.specs.Answers.{matches}
use Rattle.imap_answers.proofs.GlobLaw.{drop_next}
use Rattle.imap_answers.proofs.list.matches.Goals as goal

pub step-requires-clause-reached : goal.step-requires-clause-reached
step-requires-clause-reached c = λ k le.
    ap (λ (ok : List Bool). slice_index_or ok k false) c.deref_mut.ensures.value
    ∙ c.loop-at.invariant.reached k le
    ∙ ap (λ (ps : List ℕ). matches ps (drop k c.args.name.now)) (sym (drop_next c.loop-at.at c.args.pattern.now c.loop-at-test.true))
