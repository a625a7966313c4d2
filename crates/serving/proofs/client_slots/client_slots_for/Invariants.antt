use Rattle.std.proofs.Common.{◌≡◌, ◌≢◌, ◌≤◌, ◌*◌, All, None, length, vec_len}
use Rattle.house_shared.specs.Users.{user_numbered}
use Rattle.serving.specs.Announcing.{users_of}
use Rattle.serving.proofs.client_slots.client_slots_for.Given as goal

abbrev pub invariant-loop-user : goal.invariant-loop-user
invariant-loop-user l =
    All (λ v. user_numbered v.user l.directory.homes ≢ None) l.guests.items × (vec_len l.guests ≤ 17 * l.user) × (vec_len l.guests ≡ l.count * l.user) × (l.user ≤ length (users_of l.directory.homes))
