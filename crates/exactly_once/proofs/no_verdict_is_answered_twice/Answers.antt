use Rattle.exactly_once.proofs.Answering.{sessions_answer_once}
use Rattle.exactly_once.proofs.no_verdict_is_answered_twice.Goals as goal

pub returns : goal.returns
returns c = sessions_answer_once
