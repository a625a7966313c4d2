use Rattle.std.proofs.Common.{◌≡◌, ◌++◌, drop, false}
use Rattle.envelope.specs.Names.{unquoted}
use Rattle.imap_grammar.proofs.name.unquoted.Given as goal

abbrev pub invariant-loop-b : goal.invariant-loop-b
invariant-loop-b l = l.value.items ++ unquoted l.escaped (drop l.b-index l.text) ≡ unquoted false l.text
