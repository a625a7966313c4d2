use Rattle.house_history.proofs.Standing.{same_copy}
use Rattle.house_history.proofs.laws.one_copy_of_a_uid.Goals as goal

pub returns : goal.returns
returns c = same_copy
