use Rattle.laws_client.proofs.AtEntries.{answers_make_current, verdicts_make_current}
use Rattle.laws_client.proofs.RecordCurrent.{done_makes_current, feeds_make_current, noop_makes_current}
use Rattle.laws_client.proofs.OkCurrent.{done_commands_make_current, lists_are_current}
use Rattle.laws_client.proofs.record_laws.lists_are_current.Goals as goal

pub returns-clause-noop : goal.returns-clause-noop
returns-clause-noop c = noop_makes_current

pub returns-clause-done : goal.returns-clause-done
returns-clause-done c = done_makes_current

pub returns-clause-fed : goal.returns-clause-fed
returns-clause-fed c = feeds_make_current

pub returns-clause-list : goal.returns-clause-list
returns-clause-list c = lists_are_current

pub returns-clause-commands : goal.returns-clause-commands
returns-clause-commands c = done_commands_make_current

pub returns-clause-entries : goal.returns-clause-entries
returns-clause-entries c = answers_make_current

pub returns-clause-verdicts : goal.returns-clause-verdicts
returns-clause-verdicts c = verdicts_make_current
