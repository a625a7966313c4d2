use Rattle.std.proofs.Common.{◌≡◌, ◌+◌, vec_len}
use Rattle.lane_work.proofs.lanes.abandon_lanes.Given as goal

abbrev pub invariant-loop : goal.invariant-loop
invariant-loop g l = (vec_len l.lanes + l.counter ≡ l.end) × (vec_len l.permits ≡ vec_len l.lanes) × (vec_len l.consumers ≡ vec_len l.lanes)
