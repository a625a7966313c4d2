use Rattle.std.proofs.Common.{◌≡◌, ◌+◌, sum_by, vec_len, vec_capacity}
use Rattle.reckoning.proofs.abandoning.clear_workers.Given as goal

abbrev pub invariant-loop-one : goal.invariant-loop-one
invariant-loop-one g l =
    (vec_len l.receivers + vec_len l.worked ≡ vec_len l.fn.receivers + vec_len l.fn.worked) × (vec_capacity l.receivers ≡ vec_capacity l.fn.receivers)
    × (vec_len l.ended + sum_by (λ x. vec_len x.ended) l.worked.items ≡ vec_len l.fn.ended + sum_by (λ x. vec_len x.ended) l.fn.worked.items)
    × (vec_capacity l.ended ≡ vec_capacity l.fn.ended)

abbrev pub decreases-loop-one : goal.decreases-loop-one
decreases-loop-one g l = goal.left-loop-one g l
