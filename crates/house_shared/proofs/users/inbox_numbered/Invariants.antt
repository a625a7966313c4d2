use Rattle.std.proofs.Common.{◌≡◌, drop}
use Rattle.house_shared.specs.Users.{user_numbered}
use Rattle.house_shared.proofs.users.inbox_numbered.Given as goal

abbrev pub invariant-loop-mailbox : goal.invariant-loop-mailbox
invariant-loop-mailbox l = user_numbered l.user l.directory.homes ≡ user_numbered l.left (drop l.mailbox l.directory.homes)
