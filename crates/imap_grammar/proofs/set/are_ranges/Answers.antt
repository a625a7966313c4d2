use Rattle.std.proofs.Common.{rules}
use borrow.Author.Tests.{tests}
use Rattle.std.specs.Prelude.{is_some}
use Rattle.std.proofs.lemmas.Iterator.Search.{all_from_yields_List}
use Rattle.std.proofs.lemmas.Iterator.Splits.{YieldsList-from_slice_split}
use Rattle.imap_grammar.specs.Bytes.{is_comma}
use Rattle.imap_grammar.specs.Sets.{range_of}
use Rattle.imap_grammar.proofs.set.are_ranges.Goals as goal

pub returns : goal.returns
returns c =
    all_from_yields_List (λ part. is_some (range_of part)) _ _ _ c.all.ensures.ran
    (YieldsList-from_slice_split _ is_comma c.args.text.now c.split.ensures.rest c.split.ensures.done c.split.ensures.closure (λ x r q k. search (rules, tests)))
    (λ x r q k. search (rules, tests))
