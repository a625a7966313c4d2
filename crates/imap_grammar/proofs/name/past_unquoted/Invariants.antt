use Rattle.std.proofs.Common.{◌≡◌, false, drop}
use Rattle.envelope.specs.Names.{unquoted}
use Rattle.mail_date.specs.Fields.{past_word}
use Rattle.imap_grammar.specs.inner.Searching.{searched}
use Rattle.imap_grammar.proofs.name.past_unquoted.Given as goal

abbrev pub invariant-loop-b : goal.invariant-loop-b
invariant-loop-b l =
    past_word (unquoted l.escaped (drop l.b-index l.spelled)) (searched l.folds l.rest) ≡ past_word (unquoted false l.spelled) (searched l.folds l.text)
