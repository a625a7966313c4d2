use Rattle.shard_queue.specs.SharedLane.{IsEndedPermit}
use Rattle.std.proofs.Common.{◌≤◌, ◌+◌, All, vec_len, vec_capacity}
use Rattle.std.specs.Mem.{manually_drop_value}
use Rattle.tests_mail.proofs.tests.parcels.unpack_all.Given as goal

abbrev pub invariant-loop-parcel : goal.invariant-loop-parcel
invariant-loop-parcel g l =
    All (λ e. IsEndedPermit g.C.Carrier.view g.C.Carrier.is_of l.lane (manually_drop_value e)) l.parcels.items × (vec_len l.parcels + vec_len l.ended ≤ vec_capacity l.ended)
    × All (IsEndedPermit g.C.Carrier.view g.C.Carrier.is_of l.lane) l.ended.items

abbrev pub decreases-loop-parcel : goal.decreases-loop-parcel
decreases-loop-parcel g l = goal.left-loop-parcel g l
