use Rattle.std.proofs.Common.{◌≡◌, ◌≤◌, drop, length, vec_len, vec_capacity}
use Rattle.lane_work.specs.Permits.{ArePermits}
use Rattle.running_house.proofs.aside.end_first.Given as goal

abbrev pub invariant-loop-lane : goal.invariant-loop-lane
invariant-loop-lane g l =
    ArePermits (drop l.lane l.intake.lanes.items) l.number l.permits.items × (vec_len l.room ≡ l.lane) × (length l.intake.lanes.items ≤ vec_capacity l.room)
