use Rattle.std.proofs.Common.{◌≡◌, ◌+◌, sum_by, vec_len, vec_capacity}
use Rattle.reckoning.proofs.abandoning.clear_consumers.Given as goal

abbrev pub invariant-loop-one : goal.invariant-loop-one
invariant-loop-one g l =
    (vec_len l.permits + vec_len l.consumed ≡ vec_len l.fn.permits + vec_len l.fn.consumed) × (vec_capacity l.permits ≡ vec_capacity l.fn.permits)
    × (vec_len l.ended + sum_by (λ x. vec_len x.senders) l.consumed.items ≡ vec_len l.fn.ended + sum_by (λ x. vec_len x.senders) l.fn.consumed.items)
    × (vec_capacity l.ended ≡ vec_capacity l.fn.ended)

abbrev pub decreases-loop-one : goal.decreases-loop-one
decreases-loop-one g l = goal.left-loop-one g l
