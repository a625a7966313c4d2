use Rattle.std.proofs.Common.{◌≡◌, ◌≤◌, map, take, Some, length, vec_len, vec_capacity}
use Rattle.delivery_token.proofs.verdicts.Verdicts.known_in.Given as goal

abbrev pub invariant-loop-slot : goal.invariant-loop-slot
invariant-loop-slot l = (take l.slot-index l.slot-items ≡ map (λ v. Some v) l.known.items) × (vec_len l.known ≡ l.slot-index) × (length l.slot-items ≤ vec_capacity l.known)
