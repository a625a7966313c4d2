use Rattle.laws_relay.proofs.Served.{served_relays_conclude}
use Rattle.laws_relay.proofs.served_laws.served_relays_conclude.Goals as goal

pub returns : goal.returns
returns c =
    let known = c.messages_are_known.ensures in
    served_relays_conclude c.connections_of_accounts_are_known.ensures c.connections_are_of_lines.ensures.lines known.fronts known.stays known.taken known.numbers
