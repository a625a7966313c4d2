use Rattle.std.proofs.Common.{◌≡◌, drop}
use Rattle.imap_grammar.specs.Contains.{contains}
use Rattle.imap_grammar.specs.inner.Searching.{searched}
use Rattle.imap_grammar.proofs.containing.contains.Given as goal

abbrev pub invariant-loop-i : goal.invariant-loop-i
invariant-loop-i l = contains l.words (searched l.folds (drop l.i l.text)) ≡ contains l.words (searched l.folds l.text)
