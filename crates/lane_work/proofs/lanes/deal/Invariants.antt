use Rattle.std.proofs.Common.{◌≡◌, ◌≤◌, length, vec_len, vec_capacity}
use Rattle.lane_work.proofs.StepLaws.{StepTo, list}
use Rattle.lane_work.proofs.RowLaws.{Dealt}
use Rattle.lane_work.proofs.lanes.deal.Given as goal

abbrev pub invariant-loop-lane : goal.invariant-loop-lane
invariant-loop-lane g l =
    (vec_len l.hand ≡ l.lane) × (length l.lanes ≤ vec_capacity l.hand)
    × StepTo (Dealt g.H.Held.held list) l.lane l.fn.permits.items l.permits.items l.hand.items
