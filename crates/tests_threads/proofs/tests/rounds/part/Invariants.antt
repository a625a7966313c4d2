use Rattle.std.proofs.Common.{◌≡◌, ◌≤◌, ◌+◌, ◌++◌, map, vec_len, vec_capacity}
use Rattle.tests_threads.proofs.tests.rounds.part.Given as goal

abbrev pub invariant-loop-done : goal.invariant-loop-done
invariant-loop-done g l =
    (vec_len l.consumed + l.done ≡ vec_len l.fn.consumed) × (vec_len l.permits ≡ l.done) × (vec_len l.fn.consumed ≤ vec_capacity l.permits)
    × (vec_len l.hands + vec_len l.consumed ≤ vec_capacity l.hands)
    × (vec_len l.hands + vec_len l.consumed ≡ vec_len l.fn.hands + vec_len l.fn.consumed)
    × (l.permits.items ++ map (λ c. c.permit) l.consumed.items ≡ map (λ c. c.permit) l.fn.consumed.items)
