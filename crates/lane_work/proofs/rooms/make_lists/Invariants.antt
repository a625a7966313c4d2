use Rattle.std.proofs.Common.{◌≡◌, ◌≤◌, [], All, vec_len, vec_capacity}
use Rattle.lane_work.proofs.rooms.make_lists.Given as goal

abbrev pub invariant-loop : goal.invariant-loop
invariant-loop g l = (vec_len l.lists ≡ l.counter) × (l.count ≤ vec_capacity l.lists) × All (λ v. (v.items ≡ []) × (l.each ≤ vec_capacity v)) l.lists.items
