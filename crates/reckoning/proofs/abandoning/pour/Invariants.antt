use Rattle.std.proofs.Common.{◌≡◌, ◌+◌, vec_len, vec_capacity}
use Rattle.reckoning.proofs.abandoning.pour.Given as goal

abbrev pub invariant-loop-one : goal.invariant-loop-one
invariant-loop-one g l = (vec_len l.into + vec_len l.from ≡ vec_len l.fn.into + vec_len l.fn.from) × (vec_capacity l.into ≡ vec_capacity l.fn.into)

abbrev pub decreases-loop-one : goal.decreases-loop-one
decreases-loop-one g l = goal.left-loop-one g l
