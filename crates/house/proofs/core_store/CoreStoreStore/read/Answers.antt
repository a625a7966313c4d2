use Rattle.house.proofs.Serving.{reads}
use Rattle.house.proofs.core_store.CoreStoreStore.read.Goals as goal

pub returns : goal.returns
returns c =
    let e = c.read.ensures in
    reads c.args.self.now.core c.read.new.self c.args.self.now.session c.args.uid c.args.mark_seen c.read.result e.stranger e.event e.done e.view e.rest e.counts e.refused
