use Rattle.std.proofs.Common.{◌≡◌, ◌≤◌, ◌+◌, length, map, vec_len, vec_capacity}
use Rattle.house_shared.specs.Crew.{AllAt, IsPost}
use Rattle.serving_workers.specs.Leaving.{IsSpawned, serves_mail}
use Rattle.serving.specs.inner.Ending.{FirstTakeMail}
use Rattle.serving.proofs.sessions.start_client_slots.Given as goal

abbrev pub invariant-loop-client_slot : goal.invariant-loop-client_slot
invariant-loop-client_slot g l =
    AllAt (IsPost l.site.workplace.shared) (vec_len l.spawned) l.posts.items × (vec_len l.posts + l.client_slot ≡ length l.site.guests.items)
    × (vec_len l.spawned + vec_len l.posts ≡ length l.site.workplace.shared.delivery.channels.items)
    × (vec_len l.ears + l.client_slot ≡ length l.site.guests.items) × (vec_len l.buffers + l.client_slot ≡ length l.site.guests.items) × AllAt (IsSpawned g.L.Line.told l.site.workplace.shared) 0 l.spawned.items
    × (length l.site.workplace.shared.delivery.channels.items ≤ vec_capacity l.spawned)
    × FirstTakeMail (vec_len l.fn.spawned) (map serves_mail l.spawned.items)
