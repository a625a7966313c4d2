use Rattle.std.specs.Option.{option_copied}
use Rattle.house.proofs.Serving.{expunges}
use Rattle.house.proofs.core_store.CoreStoreStore.expunge.Goals as goal

pub returns-clause-event : goal.returns-clause-event
returns-clause-event c =
    let e = c.expunge.ensures in
    expunges c.args.self.now.core c.expunge.new.self c.args.self.now.session (option_copied c.args.uids) c.args.out.now.items c.expunge.new.out.items c.expunge.result e.stranger e.event e.done e.shown e.rest e.counts e.refused
