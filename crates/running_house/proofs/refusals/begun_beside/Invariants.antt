use Rattle.std.proofs.Common.{◌≡◌, ◌≤◌, All, drop, slice_index_or, take}
use Rattle.delivery_token.specs.declared.Job.{Job}
use Rattle.running_house.specs.Refusals.{MayWaitTogether}
use Rattle.shard_queue.specs.declared.lane.Entry.{Entry}
use Rattle.running_house.proofs.refusals.begun_beside.Given as goal

-- beside those from there on, up to this position, the entry may have been put
abbrev pub invariant-loop-earlier : goal.invariant-loop-earlier
invariant-loop-earlier l =
    (l.earlier ≤ l.index) × (l.begun ≤ l.from) × (l.from ≤ l.earlier)
    × ((last : Entry Job) → last ≡ slice_index_or l.taken l.index last → All (λ entry. MayWaitTogether entry last) (drop l.from (take l.earlier l.taken)))
