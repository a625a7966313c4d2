use Rattle.shard_queue.specs.SharedLane.{IsPermit}
use Rattle.std.proofs.Common.{◌≡◌, ◌≤◌, ◌+◌, All, vec_len, vec_capacity}
use Rattle.std.specs.Mem.{manually_drop_value}
use Rattle.tests_mail.proofs.tests.parcels.pack_all.Given as goal

abbrev pub invariant-loop-permit : goal.invariant-loop-permit
invariant-loop-permit g l =
    All (IsPermit g.C.Carrier.view g.C.Carrier.is_of l.lane) l.permits.items × (vec_len l.permits + vec_len l.parcels ≤ vec_capacity l.parcels) × (vec_len l.permits + vec_len l.parcels ≡ vec_len l.fn.permits)
    × All (λ s. IsPermit g.C.Carrier.view g.C.Carrier.is_of l.lane (manually_drop_value s)) l.parcels.items

abbrev pub decreases-loop-permit : goal.decreases-loop-permit
decreases-loop-permit g l = goal.left-loop-permit g l
