use Rattle.laws_relay.proofs.ServedWorkers.{workers_conclude}
use Rattle.laws_relay.proofs.served_laws.workers_conclude.Goals as goal

pub returns : goal.returns
returns c = workers_conclude c.served_relays_conclude.ensures c.connections_are_of_lines.ensures.lines
