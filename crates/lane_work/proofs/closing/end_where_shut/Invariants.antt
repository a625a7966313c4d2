use Rattle.std.proofs.Common.{◌≡◌}
use Rattle.lane_work.proofs.RoundLaws.{Round}
use Rattle.lane_work.proofs.closing.end_where_shut.Given as goal

abbrev pub invariant-loop-lane : goal.invariant-loop-lane
invariant-loop-lane g l =
    Round l.directory l.context.intake.now.lanes.items l.fn.desk.number l.fn.desk.permits.items l.lane l.desk.permits.items
    × (l.desk.number ≡ l.fn.desk.number) × (l.desk.receiver ≡ l.fn.desk.receiver) × (l.desk.ends ≡ l.fn.desk.ends)
    × (l.desk.dispatch ≡ l.fn.desk.dispatch)
