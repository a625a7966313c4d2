use Rattle.laws_client.proofs.Idling.{idle_tells_flags}
use Rattle.laws_client.proofs.Saying.{answer_tells_flags, verdict_tells_flags}
use Rattle.laws_client.proofs.flag_laws.turns_tell_flags.Goals as goal

pub returns-clause-answer : goal.returns-clause-answer
returns-clause-answer c = answer_tells_flags

pub returns-clause-verdict : goal.returns-clause-verdict
returns-clause-verdict c = verdict_tells_flags

pub returns-clause-idle : goal.returns-clause-idle
returns-clause-idle c = idle_tells_flags
