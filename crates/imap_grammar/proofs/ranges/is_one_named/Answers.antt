use Rattle.std.proofs.Common.{Bool, ap, sym, ◌∙◌}
use Rattle.std.specs.Prelude.{Some, ◌||◌}
use Rattle.imap_grammar.specs.Sets.{is_one_there, ranges_of}
use Rattle.imap_grammar.specs.inner.Choosing.{chosen_of}
use Rattle.imap_grammar.proofs.OneNamed.{some_end, some_step}
use Rattle.imap_grammar.proofs.ranges.is_one_named.Goals as goal

pub returns-then-part_names_one : goal.returns-then-part_names_one
returns-then-part_names_one c =
    sym (sym c.loop-part.invariant
    ∙ some_step c.args.by_uid c.loop-part.rest.now c.in-Some.part.now c.in-Some.others.now c.args.view.now c.in-Some.ensures.value
    ∙ ap (λ (t : Bool). t || is_one_there (Some (chosen_of c.args.by_uid (ranges_of c.in-Some.others.now) c.args.view.now))) (sym c.part_names_one.ensures ∙ c.if-part_names_one.true))

pub loop-part-preserved : goal.loop-part-preserved
loop-part-preserved c =
    sym (some_step c.args.by_uid c.loop-part.rest.now c.in-Some.part.now c.in-Some.others.now c.args.view.now c.in-Some.ensures.value
    ∙ ap (λ (t : Bool). t || is_one_there (Some (chosen_of c.args.by_uid (ranges_of c.in-Some.others.now) c.args.view.now))) (sym c.part_names_one.ensures ∙ c.if-part_names_one.false))
    ∙ c.loop-part.invariant

pub returns : goal.returns
returns c =
    c.part_names_one-2.ensures
    ∙ sym (some_end c.args.by_uid c.loop-part.rest.now c.args.view.now c.in_default.ensures.value)
    ∙ c.loop-part.invariant
