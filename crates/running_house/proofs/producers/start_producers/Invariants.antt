use Rattle.std.proofs.Common.{◌≡◌, ◌≤◌, ◌+◌, length, vec_len, vec_capacity}
use Rattle.house_shared.specs.Crew.{AllAt, IsPost}
use Rattle.running_house.specs.inner.Crew.{IsSpawned}
use Rattle.running_house.proofs.producers.start_producers.Given as goal

abbrev pub invariant-loop-position : goal.invariant-loop-position
invariant-loop-position g l =
    AllAt (IsPost l.common.shared.now) l.position l.posts.items × (vec_len l.posts + l.position ≡ length l.common.plans.now + length l.common.guests.now)
    × AllAt (IsSpawned l.common.shared.now l.common.plans.now l.common.guests.now) 0 l.spawned.items × (vec_len l.spawned ≡ l.position) × (length l.common.plans.now + length l.common.guests.now ≤ vec_capacity l.spawned)
