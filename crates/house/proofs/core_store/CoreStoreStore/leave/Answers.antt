use Rattle.house.proofs.Serving.{leaves}
use Rattle.house.proofs.core_store.CoreStoreStore.leave.Goals as goal

pub returns : goal.returns
returns c =
    let e = c.leave.ensures in
    leaves c.args.self.now.core c.leave.new.self c.args.self.now.session c.args.remove c.leave.result e.stranger e.event e.gone e.rest e.counts e.refused
