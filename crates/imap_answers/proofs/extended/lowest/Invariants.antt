use Rattle.std.proofs.Common.{◌≡◌, drop}
use Rattle.imap_answers.specs.Answers.{lowest}
use Rattle.imap_answers.proofs.extended.lowest.Given as goal

abbrev pub invariant-loop-number : goal.invariant-loop-number
invariant-loop-number l = lowest l.least (drop l.number-index l.more) ≡ lowest l.first l.more
