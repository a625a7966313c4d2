use Rattle.std.proofs.Common.{◌≡◌, vec_len}
use Rattle.reckoning.proofs.abandoning.abandon_lanes.Given as goal

abbrev pub invariant-loop-lane : goal.invariant-loop-lane
invariant-loop-lane g l = vec_len l.consumers ≡ vec_len l.lanes

abbrev pub decreases-loop-lane : goal.decreases-loop-lane
decreases-loop-lane g l = vec_len l.lanes
