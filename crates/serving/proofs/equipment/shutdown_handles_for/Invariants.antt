use Rattle.std.proofs.Common.{◌≡◌, ◌≤◌, vec_len, vec_capacity}
use Rattle.serving.proofs.equipment.shutdown_handles_for.Given as goal

abbrev pub invariant-loop : goal.invariant-loop
invariant-loop l = (vec_len l.all ≡ l.counter) × (l.count ≤ vec_capacity l.all)
