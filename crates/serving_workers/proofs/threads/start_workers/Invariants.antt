use Rattle.std.proofs.Common.{◌≡◌, ◌≤◌, ◌<◌, ◌+◌, true, All, length, vec_len, vec_capacity}
use Rattle.house_shared.specs.Crew.{AllAt, IsPost}
use Rattle.serving_workers.specs.Leaving.{IsSpawned, IsOutfit, serves_mail}
use Rattle.serving_workers.proofs.threads.start_workers.Given as goal

abbrev pub invariant-loop-position : goal.invariant-loop-position
invariant-loop-position g l =
    AllAt (IsPost l.workplace.shared) l.position l.posts.items × (vec_len l.posts + l.position ≡ length l.workplace.shared.delivery.channels.items)
    × All (λ o. IsOutfit g.L.Line.told o) l.outfits.items × (vec_len l.outfits + l.position ≡ length l.shutdown_handles)
    × AllAt (IsSpawned g.L.Line.told l.workplace.shared) 0 l.spawned.items × (vec_len l.spawned ≡ l.position) × (length l.workplace.shared.delivery.channels.items ≤ vec_capacity l.spawned)
    × All (λ h. serves_mail h ≡ true) l.spawned.items
