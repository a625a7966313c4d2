use Rattle.std.proofs.Common.{◌≡◌, ◌+◌, ◌≤◌, length, drop}
use Rattle.imap_answers.specs.inner.Globs.{Reached}
use Rattle.imap_answers.proofs.list.matches.Given as goal

abbrev pub invariant-loop-at : goal.invariant-loop-at
invariant-loop-at l = record {
  within : l.at ≤ length l.pattern;
  counted : length l.ok.items ≡ length l.name + 1;
  reached : Reached (drop l.at l.pattern) l.name l.ok.items;
}

abbrev pub decreases-loop-at : goal.decreases-loop-at
decreases-loop-at l = l.at
