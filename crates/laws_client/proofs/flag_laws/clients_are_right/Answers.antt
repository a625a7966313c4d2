use Rattle.laws_client.proofs.CountsAll.{oks_count_all}
use Rattle.laws_client.proofs.HouseClients.{clients_are_right}
use Rattle.laws_client.proofs.flag_laws.clients_are_right.Goals as goal

pub returns-clause-right : goal.returns-clause-right
returns-clause-right c = clients_are_right

pub returns-clause-counts : goal.returns-clause-counts
returns-clause-counts c = oks_count_all
