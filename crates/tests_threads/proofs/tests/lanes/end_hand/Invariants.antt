use Rattle.std.proofs.Common.{◌≡◌, ◌≤◌, take, drop, length, vec_len, vec_capacity}
use Rattle.lane_work.specs.Permits.{AreEnded, ArePermits}
use Rattle.tests_threads.proofs.tests.lanes.end_hand.Given as goal

abbrev pub invariant-loop-lane : goal.invariant-loop-lane
invariant-loop-lane g l =
    ArePermits (drop l.lane l.lanes) l.number l.hand.items × AreEnded (take l.lane l.lanes) l.number l.ended.items
    × (vec_len l.ended ≡ l.lane) × (length l.lanes ≤ vec_capacity l.ended)
