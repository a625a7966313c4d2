use Rattle.std.proofs.Common.{◌≡◌, drop}
use Rattle.imap_answers.specs.Answers.{highest}
use Rattle.imap_answers.proofs.extended.highest.Given as goal

abbrev pub invariant-loop-number : goal.invariant-loop-number
invariant-loop-number l = highest l.most (drop l.number-index l.more) ≡ highest l.first l.more
