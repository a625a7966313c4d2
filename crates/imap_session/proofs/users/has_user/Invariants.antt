use Rattle.std.proofs.Common.{◌≡◌, false, take}
use Rattle.std.specs.List.{list_any}
use Rattle.std.specs.Str.{bytes_eq}
use Rattle.envelope.specs.Names.{Home}
use Rattle.imap_session.proofs.users.has_user.Given as goal

abbrev pub invariant-loop-mailbox : goal.invariant-loop-mailbox
invariant-loop-mailbox l = list_any (λ (home : Home). bytes_eq l.user home.user) (take l.mailbox l.directory.homes) ≡ false
