use Rattle.std.proofs.Common.{◌≡◌, drop, true}
use Rattle.imap_grammar.specs.Contains.{body_from}
use Rattle.imap_grammar.proofs.containing.body.Given as goal

abbrev pub invariant-loop-i : goal.invariant-loop-i
invariant-loop-i l = body_from l.starts (drop l.i l.text) ≡ body_from true l.text
