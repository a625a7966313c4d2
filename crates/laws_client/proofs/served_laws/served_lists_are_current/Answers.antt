use Rattle.laws_client.proofs.ServedCurrent.{served_commands_make_current, served_commands_reach_the_end, served_done_reaches_the_end}
use Rattle.laws_client.proofs.Served.{feeds_reach_the_end, served_lists_are_current}
use Rattle.laws_client.proofs.served_laws.served_lists_are_current.Goals as goal

pub returns-clause-all : goal.returns-clause-all
returns-clause-all c = served_lists_are_current

pub returns-clause-fed : goal.returns-clause-fed
returns-clause-fed c = feeds_reach_the_end

pub returns-clause-commands : goal.returns-clause-commands
returns-clause-commands c = served_commands_reach_the_end

pub returns-clause-list : goal.returns-clause-list
returns-clause-list c = served_commands_make_current

pub returns-clause-done : goal.returns-clause-done
returns-clause-done c = served_done_reaches_the_end
