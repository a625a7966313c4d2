use Rattle.workers_sync.proofs.Holding.{expunges}
use Rattle.workers_sync.proofs.calls.expunge.Goals as goal

pub returns-clause-event : goal.returns-clause-event
returns-clause-event c =
    let e = c.expunge-gone.ensures in
    expunges c.args.mailbox.now c.expunge-gone.new.self c.args.handle.now c.expunge-gone.new.handle _ c.args.out.now.items c.expunge-gone.new.out.items c.expunge-gone.result c.every_mailbox_keeps.ensures c.every_mailbox_keeps-2.ensures
    (record { stranger = e.stranger; lapsed = e.lapped; spent = e.spent; memory = e.memory }) e.err e.handle e.moved e.logged e.window e.messages e.rest e.count e.written e.next e.shown
