use Rattle.running_house.proofs.TellLaws.{accounts_are_of_lines, stored_was_accepted, taken_is_a_producers}
use Rattle.running_house.proofs.laws.reports_tell_of_each_copy.Goals as goal

pub returns-clause-accounts : goal.returns-clause-accounts
returns-clause-accounts c = accounts_are_of_lines

pub returns-clause-stored : goal.returns-clause-stored
returns-clause-stored c = stored_was_accepted

pub returns-clause-taken : goal.returns-clause-taken
returns-clause-taken c = taken_is_a_producers
