use Rattle.std.proofs.Common.{ℕ, ◌+◌, ◌<◌, slice_index}
use Rattle.tests_mail.proofs.tests.cursors.rise.Given as goal

abbrev pub invariant-loop-i : goal.invariant-loop-i
invariant-loop-i l = (k : ℕ) → k + 1 < l.i → slice_index l.uids k < slice_index l.uids (k + 1)
