use Rattle.laws_client.proofs.CountsAll.{visitors_count_all}
use Rattle.laws_client.proofs.ServedVisits.{visitors_are_right, visitors_keep_up, visitors_stand}
use Rattle.laws_client.proofs.served_laws.served_visitors_keep_up.Goals as goal

pub returns-clause-stand : goal.returns-clause-stand
returns-clause-stand c = visitors_stand

pub returns-clause-right : goal.returns-clause-right
returns-clause-right c = visitors_are_right

pub returns-clause-counts : goal.returns-clause-counts
returns-clause-counts c = visitors_count_all

pub returns-clause-begun : goal.returns-clause-begun
returns-clause-begun c = visitors_keep_up
