use Rattle.std.proofs.Common.{◌≡◌, ◌≤◌, vec_len, vec_capacity}
use Rattle.house_shared.proofs.bells.make_session_parkers.Given as goal

abbrev pub invariant-loop : goal.invariant-loop
invariant-loop l = (vec_len l.session_parkers ≡ l.counter) × (l.count ≤ vec_capacity l.session_parkers)
