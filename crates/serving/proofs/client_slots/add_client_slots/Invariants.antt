use Rattle.std.proofs.Common.{◌≡◌, ◌≢◌, ◌+◌, All, List, None, vec_len}
use Rattle.envelope.specs.Names.{Home}
use Rattle.house_shared.specs.Users.{user_numbered}
use Rattle.serving.proofs.client_slots.add_client_slots.Given as goal

abbrev pub invariant-loop : goal.invariant-loop
invariant-loop l =
    (vec_len l.guests ≡ vec_len l.fn.guests + l.counter)
    × ((homes : List Home) → user_numbered l.user homes ≢ None
    → All (λ v. user_numbered v.user homes ≢ None) l.fn.guests.items → All (λ v. user_numbered v.user homes ≢ None) l.guests.items)
