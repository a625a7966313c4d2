use Rattle.std.proofs.Common.{Bool, ap, sym, ◌∙◌}
use Rattle.std.specs.Prelude.{◌||◌}
use Rattle.imap_grammar.specs.Sets.{ranges_of, is_too_high}
use Rattle.imap_grammar.proofs.SetParts.{high_step}
use Rattle.imap_grammar.proofs.ranges.is_one_too_high.Goals as goal

pub returns-then-names_one_above : goal.returns-then-names_one_above
returns-then-names_one_above c =
    sym (sym c.loop-part.invariant
    ∙ high_step c.loop-part.rest.now c.in-Some.part.now c.in-Some.others.now c.args.count c.in-Some.ensures.value
    ∙ ap (λ (t : Bool). t || is_too_high (ranges_of c.in-Some.others.now) c.args.count) (sym c.names_one_above.ensures ∙ c.if-names_one_above.true))

pub loop-part-preserved : goal.loop-part-preserved
loop-part-preserved c =
    sym (high_step c.loop-part.rest.now c.in-Some.part.now c.in-Some.others.now c.args.count c.in-Some.ensures.value
    ∙ ap (λ (t : Bool). t || is_too_high (ranges_of c.in-Some.others.now) c.args.count) (sym c.names_one_above.ensures ∙ c.if-names_one_above.false))
    ∙ c.loop-part.invariant
