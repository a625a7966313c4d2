use Rattle.std.proofs.Common.{◌≡◌, drop}
use Rattle.imap_grammar.specs.Contains.{unfolded}
use Rattle.imap_grammar.proofs.letters.past_unfolded.Given as goal

abbrev pub invariant-loop-i : goal.invariant-loop-i
invariant-loop-i l = unfolded (drop l.i l.text) ≡ unfolded l.text
