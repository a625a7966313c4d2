use Rattle.std.proofs.Common.{◌≡◌, ◌<◌, drop}
use Rattle.std.specs.Prelude.{IfSome}
use Rattle.imap_grammar.specs.Literals.{last_position}
use Rattle.imap_grammar.proofs.Steps.{last_from}
use Rattle.imap_grammar.proofs.literal.last_position.Given as goal

abbrev pub invariant-loop-i : goal.invariant-loop-i
invariant-loop-i l = record {
  value : last_from l.i (last_position l.byte (drop l.i l.text)) l.last ≡ last_position l.byte l.text;
  bound : IfSome l.last (λ n. n < l.i);
}
