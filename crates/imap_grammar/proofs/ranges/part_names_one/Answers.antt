use Rattle.std.proofs.Common.{ap, sym, ◌∙◌}
use Rattle.std.specs.Prelude.{Option, Some}
use Rattle.std.specs.Option.{option_to_list}
use Rattle.imap_grammar.specs.Sets.{is_one_there}
use Rattle.imap_grammar.specs.inner.Choosing.{chosen_of}
use Rattle.imap_grammar.specs.declared.set.SeqRange.{SeqRange}
use Rattle.imap_grammar.proofs.OneNamed.{none_named}
use Rattle.imap_grammar.proofs.ranges.part_names_one.Goals as goal

pub returns-in-None : goal.returns-in-None
returns-in-None c =
    sym (none_named c.args.by_uid c.args.view.now)
    ∙ ap (λ (o : Option SeqRange). is_one_there (Some (chosen_of c.args.by_uid (option_to_list o) c.args.view.now))) c.in-None.ensures
