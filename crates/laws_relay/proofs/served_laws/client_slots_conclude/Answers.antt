use Rattle.laws_relay.proofs.ServedWorkers.{client_slots_conclude}
use Rattle.laws_relay.proofs.served_laws.client_slots_conclude.Goals as goal

pub returns : goal.returns
returns c = client_slots_conclude
