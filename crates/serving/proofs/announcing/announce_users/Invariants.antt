use Rattle.std.proofs.Common.{◌≡◌, ◌++◌, drop}
use Rattle.serving.specs.Announcing.{imap_lines, users_of}
use Rattle.serving.proofs.announcing.announce_users.Given as goal

abbrev pub invariant-loop-mailbox : goal.invariant-loop-mailbox
invariant-loop-mailbox l =
    l.out.items ++ imap_lines (users_of (drop l.mailbox l.directory.homes)) l.next ≡ l.fn.out.items ++ imap_lines (users_of l.directory.homes) l.ports
