use Rattle.house.proofs.Serving.{alters}
use Rattle.house.proofs.core_store.CoreStoreStore.store.Goals as goal

pub returns : goal.returns
returns c =
    let e = c.store.ensures in
    alters c.args.self.now.core c.store.new.self c.args.self.now.session c.args.uid c.args.op c.store.result e.stranger e.memory e.event e.done e.view e.rest e.counts e.refused
