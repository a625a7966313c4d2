use Rattle.house_history.proofs.Standing.{stands_nowhere}
use Rattle.house_history.proofs.laws.refused_stands_nowhere.Goals as goal

pub returns : goal.returns
returns c = stands_nowhere
