use Rattle.std.proofs.Common.{◌≡◌, ◌+◌, drop, false}
use Rattle.std.specs.Option.{option_map}
use Rattle.imap_grammar.specs.Reading.{quoted_len}
use Rattle.imap_grammar.proofs.strings.quoted_len.Given as goal

abbrev pub invariant-loop-i : goal.invariant-loop-i
invariant-loop-i l = option_map (λ n. l.i + n) (quoted_len l.escaped (drop l.i l.bytes)) ≡ quoted_len false l.bytes
