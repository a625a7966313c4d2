use Rattle.std.proofs.Common.{◌≡◌, ◌≤◌, ◌+◌, vec_len, vec_capacity}
use Rattle.reckoning.proofs.abandoning.sort.Given as goal

abbrev pub invariant-loop-one : goal.invariant-loop-one
invariant-loop-one g l =
    (vec_len l.permits + vec_len l.from ≤ vec_len l.fn.permits + vec_len l.fn.from) × (vec_capacity l.permits ≡ vec_capacity l.fn.permits)
    × (vec_len l.ended + vec_len l.from ≤ vec_len l.fn.ended + vec_len l.fn.from) × (vec_capacity l.ended ≡ vec_capacity l.fn.ended)

abbrev pub decreases-loop-one : goal.decreases-loop-one
decreases-loop-one g l = goal.left-loop-one g l
