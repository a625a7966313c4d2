use Rattle.house.proofs.Serving.{feeds}
use Rattle.house.proofs.core_store.CoreStoreStore.feed.Goals as goal

pub returns-clause-event : goal.returns-clause-event
returns-clause-event c =
    let e = c.feed.ensures in
    feeds c.args.self.now.core c.feed.new.self c.args.self.now.session c.args.limit c.args.out.now.items c.feed.new.out.items c.feed.result e.stranger e.event e.done e.shown e.count e.less e.rest e.counts e.refused
