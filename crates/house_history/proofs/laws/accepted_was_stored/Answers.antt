use Rattle.house_history.proofs.Standing.{was_stored}
use Rattle.house_history.proofs.laws.accepted_was_stored.Goals as goal

pub returns : goal.returns
returns c = was_stored
