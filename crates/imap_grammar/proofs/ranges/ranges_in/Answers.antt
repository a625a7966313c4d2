use Rattle.std.proofs.Common.{List, ◌++◌, ap, sym, ◌∙◌, append_assoc}
use Rattle.std.specs.Option.{option_to_list}
use Rattle.imap_grammar.specs.Sets.{range_of, ranges_of}
use Rattle.imap_grammar.specs.declared.set.SeqRange.{SeqRange}
use Rattle.imap_grammar.proofs.SetParts.{ranges_cut}
use Rattle.imap_grammar.proofs.ranges.ranges_in.Goals as goal

pub loop-part-preserved : goal.loop-part-preserved
loop-part-preserved c =
    ap (λ (l : List SeqRange). l ++ ranges_of c.in-Some.others.now) c.in_ok-push_range.ensures
    ∙ append_assoc c.loop-part.ranges.items (option_to_list (range_of c.in-Some.part.now)) (ranges_of c.in-Some.others.now)
    ∙ ap (λ (l : List SeqRange). c.loop-part.ranges.items ++ l) (sym (ranges_cut c.loop-part.rest.now c.in-Some.part.now c.in-Some.others.now c.in-Some.ensures.value))
    ∙ c.loop-part.invariant
