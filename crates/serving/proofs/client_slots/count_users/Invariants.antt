use Rattle.std.proofs.Common.{◌≤◌, length}
use Rattle.serving.specs.Announcing.{users_of}
use Rattle.serving.proofs.client_slots.count_users.Given as goal

abbrev pub invariant-loop-user : goal.invariant-loop-user
invariant-loop-user l = l.user ≤ length (users_of l.directory.homes)
