use Rattle.std.proofs.Common.{◌≡◌, ◌≤◌, length, vec_len, vec_capacity}
use Rattle.house_shared.proofs.bells.make_bells.Given as goal

abbrev pub invariant-loop-parker : goal.invariant-loop-parker
invariant-loop-parker l = (vec_len l.bells ≡ l.parker-index) × (length l.parkers ≤ vec_capacity l.bells)
