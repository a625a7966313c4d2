use Rattle.laws_relay.proofs.ServedLines.{lines_conclude}
use Rattle.laws_relay.proofs.served_laws.lines_conclude.Goals as goal

pub returns : goal.returns
returns c = lines_conclude c.servers_conclude.ensures
