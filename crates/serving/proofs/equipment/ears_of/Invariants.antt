use Rattle.std.proofs.Common.{◌≡◌, ◌≤◌, ◌+◌, vec_len, vec_capacity}
use Rattle.serving.proofs.equipment.ears_of.Given as goal

abbrev pub invariant-loop-client_slot : goal.invariant-loop-client_slot
invariant-loop-client_slot l = (vec_len l.ears ≡ l.client_slot) × (vec_len l.fn.bells ≤ vec_capacity l.ears) × (vec_len l.bells + l.client_slot ≡ vec_len l.fn.bells)
