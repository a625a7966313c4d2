use Rattle.house_history.proofs.Follow.{settled_final}
use Rattle.house_history.proofs.laws.settled_is_final.Goals as goal

pub returns : goal.returns
returns c = settled_final
