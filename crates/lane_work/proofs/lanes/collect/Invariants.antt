use Rattle.std.proofs.Common.{◌≡◌, ◌+◌, ◌++◌, List, vec_len}
use Rattle.lane_work.proofs.StepLaws.{Grows, StepTo}
use Rattle.lane_work.proofs.lanes.collect.Given as goal

abbrev pub invariant-loop-position : goal.invariant-loop-position
invariant-loop-position g l =
    (vec_len l.values + l.position ≡ vec_len l.fn.lists)
    × (done : List g.row.E.Denot) × (l.fn.values.items ≡ done ++ l.values.items)
    × StepTo Grows l.position l.fn.lists.items l.lists.items done
