use Rattle.std.proofs.Common.{◌≡◌, ◌+◌, ◌∷◌, ◌∙◌, ℕ, List, ap, sym, drop, get_or}
use Rattle.std.proofs.lemmas.List.{drop_more}
use Rattle.mailbox.specs.inner.Marks.{doomed}
use Rattle.mailbox.proofs.messages.doom_each.Goals as goal

pub loop-uid-preserved : goal.loop-uid-preserved
loop-uid-preserved c =
    let us = c.args.uids.now in
    let i = c.loop-uid.uid-index in
    let rest = drop (i + 1) us in
    let split : drop i us ≡ get_or us i 0 ∷ rest = drop_more us i 0 c.loop-uid-test.true in
    ap (doomed rest) c.doom.ensures ∙ sym (ap (λ (vs : List ℕ). doomed vs c.loop-uid.messages) split) ∙ c.loop-uid.invariant
