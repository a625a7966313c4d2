use Rattle.laws_client.proofs.Names.{counted_are_given, gone_stay_gone, uids_stay}
use Rattle.laws_client.proofs.Onward.{records_move_on, uids_name_one_copy}
use Rattle.laws_client.proofs.record_laws.uids_stay.Goals as goal

pub returns-clause-named : goal.returns-clause-named
returns-clause-named c = uids_name_one_copy

pub returns-clause-same : goal.returns-clause-same
returns-clause-same c = uids_stay

pub returns-clause-gone : goal.returns-clause-gone
returns-clause-gone c = gone_stay_gone

pub returns-clause-given : goal.returns-clause-given
returns-clause-given c = counted_are_given

pub returns-clause-records : goal.returns-clause-records
returns-clause-records c = records_move_on
