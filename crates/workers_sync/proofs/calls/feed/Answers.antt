use Rattle.workers_sync.specs.Holds.{DoesFeed}
use Rattle.std.proofs.Common.{Result, ℕ, sym, subst}
use Rattle.mailbox.specs.declared.clients.MailFault.{MailFault}
use Rattle.workers_sync.proofs.Holding.{feeds}
use Rattle.workers_sync.proofs.calls.feed.Goals as goal

pub returns-clause-event : goal.returns-clause-event
returns-clause-event c =
    let e = c.feed-fed.ensures in
    subst (λ (r : Result ℕ MailFault). DoesFeed c.args.mailbox.now c.args.handle.now c.args.limit c.args.out.now.items c.feed-fed.new.out.items r c.feed-fed.new.self c.feed-fed.new.handle) (sym c.answer_of.ensures)
    (feeds c.args.mailbox.now c.feed-fed.new.self c.args.handle.now c.feed-fed.new.handle c.args.limit c.args.out.now.items c.feed-fed.new.out.items c.feed-fed.result c.every_mailbox_keeps.ensures c.every_mailbox_keeps-2.ensures
    e.stranger e.lapped e.memory e.err e.count e.handle e.logged e.rest e.moved e.written e.next e.shown)
