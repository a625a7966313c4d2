use Rattle.std.proofs.Common.{◌≡◌, ◌≤◌, ◌+◌, ◌++◌, None, map, vec_len, vec_capacity}
use Rattle.reckoning.specs.Gathered.{fault_of_consumer, gravest}
use Rattle.reckoning.proofs.gather.gather_consumers.Given as goal

abbrev pub invariant-loop : goal.invariant-loop
invariant-loop g l =
    (l.into.permits.items ++ map (λ c. c.permit) l.consumed.items ≡ map (λ c. c.permit) l.fn.consumed.items)
    × (map (λ h. h.items) l.into.hands.items ++ map (λ c. c.senders.items) l.consumed.items ≡ map (λ c. c.senders.items) l.fn.consumed.items)
    × (l.into.taken.items ++ map (λ c. c.taken) l.consumed.items ≡ map (λ c. c.taken) l.fn.consumed.items)
    × (gravest l.worst (map fault_of_consumer l.consumed.items) ≡ gravest None (map fault_of_consumer l.fn.consumed.items))
    × (vec_len l.consumed + vec_len l.into.permits ≡ vec_len l.fn.consumed) × (vec_len l.fn.consumed ≤ vec_capacity l.into.permits)
    × (vec_len l.consumed + vec_len l.into.hands ≡ vec_len l.fn.consumed) × (vec_len l.fn.consumed ≤ vec_capacity l.into.hands)
    × (vec_len l.consumed + vec_len l.into.taken ≡ vec_len l.fn.consumed) × (vec_len l.fn.consumed ≤ vec_capacity l.into.taken)
    × (vec_len l.consumed + l.counter ≡ vec_len l.fn.consumed)
