use Rattle.house.proofs.Serving.{opens}
use Rattle.house.proofs.core_store.CoreStoreStore.enter.Goals as goal

pub returns : goal.returns
returns c =
    let e = c.enter.ensures in
    opens c.args.self.now.core c.enter.new.self c.args.self.now.session c.args.mailbox c.enter.result e.stranger e.lapsed e.event e.entered e.validity e.rest e.counts e.refused
