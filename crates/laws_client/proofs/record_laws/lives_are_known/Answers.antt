use Rattle.laws_client.proofs.LoggedIn.{login_comes_first}
use Rattle.laws_client.proofs.Living.{knows_where_it_is, lives_are_known}
use Rattle.laws_client.proofs.Selecting.{knowing_is_selected}
use Rattle.laws_client.proofs.record_laws.lives_are_known.Goals as goal

pub returns-clause-life : goal.returns-clause-life
returns-clause-life c = lives_are_known

pub returns-clause-knows : goal.returns-clause-knows
returns-clause-knows c = knows_where_it_is

pub returns-clause-selected : goal.returns-clause-selected
returns-clause-selected c = knowing_is_selected

pub returns-clause-login : goal.returns-clause-login
returns-clause-login c = login_comes_first
