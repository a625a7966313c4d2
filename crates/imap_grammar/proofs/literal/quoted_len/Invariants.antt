use Rattle.std.proofs.Common.{◌≡◌, ◌≤◌, ◌+◌, ◌*◌, drop, length}
use Rattle.imap_grammar.specs.Literals.{backslashed, quoted}
use Rattle.imap_grammar.proofs.literal.quoted_len.Given as goal

abbrev pub invariant-loop-b : goal.invariant-loop-b
invariant-loop-b l = (l.len + length (backslashed (drop l.b-index l.text)) ≡ length (quoted l.text)) × (l.len ≤ 2 + 2 * l.b-index)
