use Rattle.std.proofs.Common.{arith}
use Rattle.imap_session.proofs.FolderLaws.{folders_next}
use Rattle.imap_session.proofs.users.folders_of.Goals as goal

pub loop-mailbox-preserved : goal.loop-mailbox-preserved
loop-mailbox-preserved c =
    let l = c.mailboxes-mailbox-end.ensures.value in
    folders_next c.args.user.now c.args.directory.now.homes c.loop-mailbox.mailbox c.loop-mailbox.folders.items c.add_folder.new.folders.items (omega (arith, l, c.loop-mailbox-test.true)) c.in_ok-add_folder.ensures c.loop-mailbox.invariant
