use Rattle.house_history.proofs.Standing.{alone_there}
use Rattle.house_history.proofs.laws.stands_once.Goals as goal

pub returns : goal.returns
returns c = alone_there
