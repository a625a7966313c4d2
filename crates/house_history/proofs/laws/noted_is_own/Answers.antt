use Rattle.house_history.proofs.Follow.{noted_own}
use Rattle.house_history.proofs.laws.noted_is_own.Goals as goal

pub returns : goal.returns
returns c = noted_own
