use Rattle.std.proofs.Common.{◌≡◌, drop}
use Rattle.mail_date.specs.Fields.{past_word}
use Rattle.imap_grammar.specs.inner.Searching.{searched}
use Rattle.imap_grammar.proofs.name.past_plain.Given as goal

abbrev pub invariant-loop-b : goal.invariant-loop-b
invariant-loop-b l = past_word (drop l.b-index l.words) (searched l.folds l.rest) ≡ past_word l.words (searched l.folds l.text)
