use Rattle.std.proofs.Common.{Bool, List, ap, sym, ◌∙◌}
use Rattle.std.specs.Prelude.{◌||◌}
use Rattle.imap_grammar.specs.Sets.{ranges_of, is_named}
use Rattle.imap_grammar.proofs.SetParts.{named_step, ranges_end}
use Rattle.imap_grammar.specs.declared.set.SeqRange.{SeqRange}
use Rattle.imap_grammar.proofs.ranges.is_number_named.Goals as goal

pub returns-then-part_names : goal.returns-then-part_names
returns-then-part_names c =
    sym (sym c.loop-part.invariant
    ∙ named_step c.loop-part.rest.now c.in-Some.part.now c.in-Some.others.now c.args.greatest c.args.n c.in-Some.ensures.value
    ∙ ap (λ (t : Bool). t || is_named (ranges_of c.in-Some.others.now) c.args.greatest c.args.n) (sym c.part_names.ensures ∙ c.if-part_names.true))

pub loop-part-preserved : goal.loop-part-preserved
loop-part-preserved c =
    sym (named_step c.loop-part.rest.now c.in-Some.part.now c.in-Some.others.now c.args.greatest c.args.n c.in-Some.ensures.value
    ∙ ap (λ (t : Bool). t || is_named (ranges_of c.in-Some.others.now) c.args.greatest c.args.n) (sym c.part_names.ensures ∙ c.if-part_names.false))
    ∙ c.loop-part.invariant

pub returns : goal.returns
returns c =
    c.part_names-2.ensures
    ∙ sym (ap (λ (set : List SeqRange). is_named set c.args.greatest c.args.n) (ranges_end c.loop-part.rest.now c.in_default.ensures.value))
    ∙ c.loop-part.invariant
