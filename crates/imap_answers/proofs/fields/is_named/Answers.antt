use Rattle.std.proofs.Common.{rules, ap, ◌∙◌}
use borrow.Author.Tests.{tests}
use Rattle.std.specs.Prelude.{is_some}
use Rattle.std.specs.List.{list_any}
use Rattle.std.proofs.lemmas.Iterator.Search.{any_from_yields_List}
use Rattle.std.proofs.lemmas.Iterator.Splits.{YieldsList-from_slice_split}
use Rattle.envelope.specs.Bytes.{is_space}
use Rattle.mail_date.specs.Fields.{past_name}
use Rattle.imap_grammar.specs.Items.{name_said}
use Rattle.imap_answers.proofs.fields.is_named.Goals as goal

pub returns : goal.returns
returns c =
    any_from_yields_List (λ word. is_some (past_name (name_said word) c.args.text.now)) _ _ _ c.any.ensures.ran
    (YieldsList-from_slice_split _ is_space c.spelled.result.now c.split.ensures.rest c.split.ensures.done c.split.ensures.closure (λ x r q k. search (rules, tests)))
    (λ x r q k. search (rules, tests))
    ∙ ap (list_any (λ word. is_some (past_name (name_said word) c.args.text.now))) c.spelled.ensures.parts
