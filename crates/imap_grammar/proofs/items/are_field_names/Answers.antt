use Rattle.std.proofs.Common.{rules}
use borrow.Author.Tests.{tests}
use Rattle.std.proofs.lemmas.Iterator.Search.{all_from_yields_List}
use Rattle.std.proofs.lemmas.Iterator.Splits.{YieldsList-from_slice_split}
use Rattle.envelope.specs.Bytes.{is_space}
use Rattle.imap_grammar.specs.Items.{is_field_name}
use Rattle.imap_grammar.proofs.items.are_field_names.Goals as goal

pub returns : goal.returns
returns c =
    all_from_yields_List is_field_name _ _ _ c.all.ensures.ran
    (YieldsList-from_slice_split _ is_space c.args.text.now c.split.ensures.rest c.split.ensures.done c.split.ensures.closure (λ x r q k. search (rules, tests)))
    (λ x r q k. search (rules, tests))
