use Rattle.std.proofs.Common.{◌≡◌, ◌+◌, ◌++◌, drop, length, vec_len}
use Rattle.std.specs.Vec.{vec_capacity}
use Rattle.imap_grammar.specs.Literals.{backslashed}
use Rattle.imap_grammar.proofs.literal.put_backslashed.Given as goal

abbrev pub invariant-loop-b : goal.invariant-loop-b
invariant-loop-b l =
    (l.out.items ++ backslashed (drop l.b-index l.text) ≡ l.initial.out.items ++ backslashed l.text)
    × (vec_len l.out + length (backslashed (drop l.b-index l.text)) ≡ vec_len l.initial.out + length (backslashed l.text))
    × (vec_capacity l.out ≡ vec_capacity l.initial.out)
