use Rattle.house_history.proofs.Follow.{never_judged}
use Rattle.house_history.proofs.laws.withdrawn_never_judged.Goals as goal

pub returns : goal.returns
returns c = never_judged
