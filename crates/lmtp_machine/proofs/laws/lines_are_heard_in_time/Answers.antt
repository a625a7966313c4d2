use Rattle.lmtp_machine.proofs.Answered.{answers_lines}
use Rattle.lmtp_machine.proofs.Pieces.{takes_while_listening}
use Rattle.lmtp_machine.proofs.laws.lines_are_heard_in_time.Goals as goal

pub returns-clause-lines : goal.returns-clause-lines
returns-clause-lines c = answers_lines

pub returns-clause-verdicts : goal.returns-clause-verdicts
returns-clause-verdicts c = takes_while_listening
