use Rattle.std.proofs.Common.{ℕ, ◌<◌, map, [], slice_index_or}
use Rattle.running_house.specs.Lists.{IsTold}
use Rattle.running_house.proofs.told.are_told.Given as goal

abbrev pub invariant-loop-seat : goal.invariant-loop-seat
invariant-loop-seat l = (p : ℕ) → p < l.seat → IsTold l.mailbox l.accepted p (slice_index_or (map (λ g. g.notes) l.logs) p [])
