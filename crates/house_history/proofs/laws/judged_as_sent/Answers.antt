use Rattle.house_history.proofs.Follow.{had_been_sent}
use Rattle.house_history.proofs.laws.judged_as_sent.Goals as goal

pub returns : goal.returns
returns c history job v legal was = (was.0, had_been_sent history legal job v was.0 was.1)
