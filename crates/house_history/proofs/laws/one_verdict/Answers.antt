use Rattle.house_history.proofs.Follow.{only_verdict}
use Rattle.house_history.proofs.laws.one_verdict.Goals as goal

pub returns : goal.returns
returns c = only_verdict
