use Rattle.house_history.proofs.Standing.{no_key_twice}
use Rattle.house_history.proofs.laws.no_key_twice.Goals as goal

pub returns : goal.returns
returns c = no_key_twice
