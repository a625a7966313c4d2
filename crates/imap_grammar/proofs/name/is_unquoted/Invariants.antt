use Rattle.std.proofs.Common.{◌≡◌, false, drop}
use Rattle.std.specs.Str.{bytes_eq}
use Rattle.envelope.specs.Names.{unquoted}
use Rattle.imap_grammar.proofs.name.is_unquoted.Given as goal

abbrev pub invariant-loop-b : goal.invariant-loop-b
invariant-loop-b l = bytes_eq (unquoted l.escaped (drop l.b-index l.text)) l.rest ≡ bytes_eq (unquoted false l.text) l.bytes
