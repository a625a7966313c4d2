use Rattle.laws_client.proofs.ServedVisits.{attended_clients_live, calls_go_on, visits_are_by_history, visits_begin, visits_go_on}
use Rattle.laws_client.proofs.served_laws.served_visits_are_lives.Goals as goal

pub returns-clause-begin : goal.returns-clause-begin
returns-clause-begin c = visits_begin

pub returns-clause-go_on : goal.returns-clause-go_on
returns-clause-go_on c = visits_go_on

pub returns-clause-calls : goal.returns-clause-calls
returns-clause-calls c = calls_go_on

pub returns-clause-attended : goal.returns-clause-attended
returns-clause-attended c = attended_clients_live

pub returns-clause-by_history : goal.returns-clause-by_history
returns-clause-by_history c = visits_are_by_history
