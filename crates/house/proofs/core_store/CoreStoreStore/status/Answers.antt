use Rattle.std.proofs.Common.{refl}
use Rattle.house.proofs.Serving.{counted}
use Rattle.house.proofs.core_store.CoreStoreStore.status.Goals as goal

pub returns-in-Some-clause-event : goal.returns-in-Some-clause-event
returns-in-Some-clause-event c =
    let e = c.in-Some.ensures in
    counted c.args.self.now.core c.args.self.now.session c.args.mailbox c.in-Some.status (e.there.0 refl) e.status e.validity
