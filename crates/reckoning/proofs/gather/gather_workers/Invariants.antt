use Rattle.std.proofs.Common.{◌≡◌, ◌≤◌, ◌+◌, ◌++◌, None, map, vec_len, vec_capacity}
use Rattle.reckoning.specs.Gathered.{fault_of_fate, gravest}
use Rattle.reckoning.proofs.gather.gather_workers.Given as goal

abbrev pub invariant-loop : goal.invariant-loop
invariant-loop g l =
    (map (λ h. h.items) l.into.hands.items ++ map (λ w. w.ended.items) l.worked.items ≡ map (λ w. w.ended.items) l.fn.worked.items)
    × (l.into.receivers.items ++ map (λ w. w.receiver) l.worked.items ≡ map (λ w. w.receiver) l.fn.worked.items)
    × (l.into.replies.items ++ map (λ w. w.replies) l.worked.items ≡ map (λ w. w.replies) l.fn.worked.items)
    × (l.into.logs.items ++ map (λ w. w.log) l.worked.items ≡ map (λ w. w.log) l.fn.worked.items)
    × (gravest l.worst (map (λ w. fault_of_fate w.fate) l.worked.items) ≡ gravest None (map (λ w. fault_of_fate w.fate) l.fn.worked.items))
    × (vec_len l.worked + vec_len l.into.hands ≡ vec_len l.fn.worked) × (vec_len l.fn.worked ≤ vec_capacity l.into.hands)
    × (vec_len l.worked + vec_len l.into.receivers ≡ vec_len l.fn.worked) × (vec_len l.fn.worked ≤ vec_capacity l.into.receivers)
    × (vec_len l.worked + vec_len l.into.replies ≡ vec_len l.fn.worked) × (vec_len l.fn.worked ≤ vec_capacity l.into.replies)
    × (vec_len l.worked + vec_len l.into.logs ≡ vec_len l.fn.worked) × (vec_len l.fn.worked ≤ vec_capacity l.into.logs)
    × (vec_len l.worked + l.counter ≡ vec_len l.fn.worked)
