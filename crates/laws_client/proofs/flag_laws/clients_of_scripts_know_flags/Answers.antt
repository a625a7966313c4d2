use Rattle.laws_client.proofs.FlagKeeping.{clients_of_scripts_know_flags}
use Rattle.laws_client.proofs.flag_laws.clients_of_scripts_know_flags.Goals as goal

pub returns : goal.returns
returns c = clients_of_scripts_know_flags
