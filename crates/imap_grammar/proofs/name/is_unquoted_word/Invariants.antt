use Rattle.std.proofs.Common.{◌≡◌, false, drop}
use Rattle.std.specs.Str.{str_eq_ignore_ascii_case as is_same}
use Rattle.envelope.specs.Names.{unquoted}
use Rattle.imap_grammar.proofs.name.is_unquoted_word.Given as goal

abbrev pub invariant-loop-b : goal.invariant-loop-b
invariant-loop-b l = is_same (unquoted l.escaped (drop l.b-index l.text)) l.rest ≡ is_same (unquoted false l.text) l.word
