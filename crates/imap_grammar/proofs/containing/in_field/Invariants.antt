use Rattle.std.proofs.Common.{◌≡◌, drop, true}
use Rattle.imap_grammar.specs.Contains.{fields_from}
use Rattle.imap_grammar.proofs.Searching.{any_has}
use Rattle.imap_grammar.proofs.containing.in_field.Given as goal

abbrev pub invariant-loop-i : goal.invariant-loop-i
invariant-loop-i l = any_has l.name l.words (fields_from l.starts (drop l.i l.text)) ≡ any_has l.name l.words (fields_from true l.text)
