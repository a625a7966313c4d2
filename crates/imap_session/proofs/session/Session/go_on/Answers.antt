use Rattle.imap_session.specs.Commands.{copy_stored, told_copied, with_validity}
use Rattle.imap_session.specs.inner.Seen.{batch_of}
use Rattle.imap_session.proofs.Copies.{had_led_alone}
use Rattle.imap_session.proofs.session.Session.go_on.Goals as goal

pub returns-in-Ok-clause-had : goal.returns-in-Ok-clause-had
returns-in-Ok-clause-had g c =
    let now = c.args.self.now in
    had_led_alone g.S.Store.step c.args.tag now c.submit_next.new.self (copy_stored now.mailing now.selected (batch_of c.args.batch) c.args.mailbox) c.args.store.now (g.O.Outlet.said c.args.out.now) (g.O.Outlet.said c.args.out.now) _
    (c.in-Ok.ensures.sent (with_validity c.args.mailbox (told_copied now.selected (batch_of c.args.batch))) (g.O.Outlet.said c.args.out.now))
