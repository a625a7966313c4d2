use Rattle.imap_session.proofs.Telling.{appended_tells, answering_tells_none, fault_tells_none, idling_tells_none, long_line_tells_none, refusal_tells_none, rest_tells_none, verdict_tells, words_tell_which}
use Rattle.imap_session.proofs.laws.only_a_stored_verdict_tells_a_uid.Goals as goal

pub returns-clause-words : goal.returns-clause-words
returns-clause-words c = appended_tells

pub returns-clause-numbers : goal.returns-clause-numbers
returns-clause-numbers c = words_tell_which

pub returns-clause-verdicts : goal.returns-clause-verdicts
returns-clause-verdicts c = verdict_tells

pub returns-clause-commands : goal.returns-clause-commands
returns-clause-commands c = answering_tells_none

pub returns-clause-idling : goal.returns-clause-idling
returns-clause-idling c = idling_tells_none

pub returns-clause-rest : goal.returns-clause-rest
returns-clause-rest c = rest_tells_none

pub returns-clause-faults : goal.returns-clause-faults
returns-clause-faults c = fault_tells_none

pub returns-clause-long : goal.returns-clause-long
returns-clause-long c = long_line_tells_none

pub returns-clause-refusals : goal.returns-clause-refusals
returns-clause-refusals c = refusal_tells_none
