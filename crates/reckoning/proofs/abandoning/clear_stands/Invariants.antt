use Rattle.std.proofs.Common.{◌≡◌, ◌+◌, [], All, sum_by, vec_len, vec_capacity}
use Rattle.reckoning.proofs.abandoning.clear_stands.Given as goal

abbrev pub invariant-loop-stand : goal.invariant-loop-stand
invariant-loop-stand g l =
    (vec_len l.permits + vec_len l.stands ≡ vec_len l.fn.permits + vec_len l.fn.stands) × (vec_capacity l.permits ≡ vec_capacity l.fn.permits)
    × (vec_len l.senders + sum_by (λ x. vec_len x.stall.senders) l.stands.items ≡ vec_len l.fn.senders + sum_by (λ x. vec_len x.stall.senders) l.fn.stands.items)
    × (vec_capacity l.senders ≡ vec_capacity l.fn.senders)
    × All (λ s. s.room.items ≡ []) l.stands.items

abbrev pub decreases-loop-stand : goal.decreases-loop-stand
decreases-loop-stand g l = goal.left-loop-stand g l
