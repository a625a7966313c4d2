use Rattle.house.proofs.Serving.{discarded}
use Rattle.house.proofs.core_store.CoreStoreStore.discard.Goals as goal

pub returns-clause-event : goal.returns-clause-event
returns-clause-event c =
    let e = c.discard.ensures in
    discarded c.args.self.now.core c.discard.new.self c.args.self.now.session c.args.mailbox c.args.uids.now c.discard.result e.stranger e.event e.views e.rest e.counts e.refused
