use Rattle.laws_client.proofs.FlagKeeping.{clients_know_flags, clients_of_houses_know_flags}
use Rattle.laws_client.proofs.flag_laws.clients_know_flags.Goals as goal

pub returns-clause-record : goal.returns-clause-record
returns-clause-record c = clients_know_flags

pub returns-clause-house : goal.returns-clause-house
returns-clause-house c = clients_of_houses_know_flags
