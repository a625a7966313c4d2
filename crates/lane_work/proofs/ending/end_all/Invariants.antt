use Rattle.std.proofs.Common.{◌≡◌, ◌≤◌, ◌++◌, ◌∷◌, [], map, take, drop, length, vec_len, vec_capacity}
use Rattle.shard_queue.specs.declared.lane.Entry.TheVariants.{End}
use Rattle.shard_queue.specs.Permits.{said}
use Rattle.lane_work.specs.Permits.{put_by}
use Rattle.lane_work.specs.Permits.{AreEnded, ArePermits}
use Rattle.lane_work.proofs.ending.end_all.Given as goal

abbrev pub invariant-loop-lane : goal.invariant-loop-lane
invariant-loop-lane g l =
    ArePermits (drop l.lane l.intake.lanes.items) l.number l.permits.items
    × AreEnded (take l.lane l.intake.lanes.items) l.number l.ended.items
    × (vec_len l.ended ≡ l.lane) × (length l.intake.lanes.items ≤ vec_capacity l.ended)
    × (map said l.ended.items ++ map (λ entries. entries ++ End l.number ∷ []) (map put_by l.permits.items) ≡ map (λ entries. entries ++ End l.number ∷ []) (map put_by l.fn.permits.items))
