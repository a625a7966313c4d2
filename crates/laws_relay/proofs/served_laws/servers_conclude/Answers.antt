use Rattle.laws_relay.proofs.ServedWorkers.{servers_conclude}
use Rattle.laws_relay.proofs.served_laws.servers_conclude.Goals as goal

pub returns : goal.returns
returns c = servers_conclude c.workers_conclude.ensures
