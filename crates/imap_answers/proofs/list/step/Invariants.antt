use Rattle.std.proofs.Common.{◌≡◌, ℕ, ◌+◌, ◌<◌, ◌≤◌, false, length, drop, slice_index_or}
use Rattle.imap_answers.specs.Answers.{matches}
use Rattle.imap_answers.proofs.list.step.Given as goal

abbrev pub invariant-loop-i : goal.invariant-loop-i
invariant-loop-i l = record {
  counted : length l.ok ≡ length l.name + 1;
  within : l.i ≤ length l.name;
  behind : l.behind ≡ matches (drop 1 l.pattern) (drop l.i l.name);
  done : (k : ℕ) → l.i ≤ k → k ≤ length l.name → slice_index_or l.ok k false ≡ matches l.pattern (drop k l.name);
  before : (k : ℕ) → k < l.i → slice_index_or l.ok k false ≡ matches (drop 1 l.pattern) (drop k l.name);
}

abbrev pub decreases-loop-i : goal.decreases-loop-i
decreases-loop-i l = l.i
