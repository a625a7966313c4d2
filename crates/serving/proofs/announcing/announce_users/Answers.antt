use Rattle.std.proofs.Common.{◌++◌, arith}
use Rattle.serving.specs.Announcing.{imap_lines, users_of}
use Rattle.serving.proofs.AnnouncingLaws.{users_next}
use Rattle.serving.proofs.announcing.announce_users.Goals as goal

pub loop-mailbox-preserved : goal.loop-mailbox-preserved
loop-mailbox-preserved c =
    let homes = c.args.directory.now.homes in
    let most = c.mailboxes-mailbox-end.ensures.value in
    users_next c.loop-mailbox.mailbox homes (c.args.out.now.items ++ imap_lines (users_of homes) c.args.ports.now) c.loop-mailbox.out.items c.announce_mailbox.new.out.items c.loop-mailbox.next.now
    c.in_ok-next.next.now (omega (arith, most, c.loop-mailbox-test.true)) c.loop-mailbox.invariant c.in_ok-next.ensures
