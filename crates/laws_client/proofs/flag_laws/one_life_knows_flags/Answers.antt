use Rattle.laws_client.proofs.FlagOneLife.{one_life_knows_flags}
use Rattle.laws_client.proofs.flag_laws.one_life_knows_flags.Goals as goal

pub returns : goal.returns
returns c = one_life_knows_flags
