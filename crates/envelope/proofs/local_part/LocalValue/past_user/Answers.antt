use Rattle.std.proofs.Common.{◌≡◌, ◌∙◌, sym, ap₂, ◌∷◌, [], ap}
use Rattle.envelope.specs.LocalPart.{value_left, past_user}
use Rattle.envelope.proofs.Steps.{drop_step}
use Rattle.envelope.proofs.local_part.LocalValue.past_user.Goals as goal

pub returns-in_default : goal.returns-in_default
returns-in_default c =
    let byte = drop_step c.args.user.now c.loop-b.b-index c.loop-b-test.true in
    let at_end : value_left c.loop-b.rest ≡ [] = c.in_default.ensures in
    sym (c.loop-b.invariant ∙ ap₂ past_user byte at_end)

pub returns-then-first-eq43 : goal.returns-then-first-eq43
returns-then-first-eq43 c =
    let byte = drop_step c.args.user.now c.loop-b.b-index c.loop-b-test.true in
    let plus : value_left c.loop-b.rest ≡ 43 ∷ value_left c.in-Some.more = c.in-Some.ensures ∙ ap (λ b. b ∷ value_left c.in-Some.more) c.if-first-eq43.true in
    sym (c.loop-b.invariant ∙ ap₂ past_user byte plus)
