use Rattle.running_house.proofs.LogLaws.{account_is_of_lines, log_has_each_verdict, put_was_submitted, stored_is_on_its_lane}
use Rattle.running_house.proofs.account_laws.logs_meet_lanes.Goals as goal

pub returns-clause-stored : goal.returns-clause-stored
returns-clause-stored c = stored_is_on_its_lane

pub returns-clause-put : goal.returns-clause-put
returns-clause-put c = put_was_submitted

pub returns-clause-verdicts : goal.returns-clause-verdicts
returns-clause-verdicts c = log_has_each_verdict

pub returns-clause-account : goal.returns-clause-account
returns-clause-account c = account_is_of_lines
