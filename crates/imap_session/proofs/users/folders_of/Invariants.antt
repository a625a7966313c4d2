use Rattle.std.proofs.Common.{◌≡◌, take}
use Rattle.imap_session.specs.Folders.{folders_from}
use Rattle.imap_session.proofs.users.folders_of.Given as goal

abbrev pub invariant-loop-mailbox : goal.invariant-loop-mailbox
invariant-loop-mailbox l = l.folders.items ≡ folders_from 0 l.user (take l.mailbox l.directory.homes)
