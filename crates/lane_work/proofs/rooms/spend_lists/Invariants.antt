use Rattle.std.proofs.Common.{◌≡◌, [], All}
use Rattle.lane_work.proofs.rooms.spend_lists.Given as goal

abbrev pub invariant-loop-list : goal.invariant-loop-list
invariant-loop-list g l = All (λ v. v.items ≡ []) l.lists.items

abbrev pub decreases-loop-list : goal.decreases-loop-list
decreases-loop-list g l = goal.left-loop-list g l
