use Rattle.laws_client.proofs.ByUid.{flags_are_by_uid}
use Rattle.laws_client.proofs.Moments.{flags_are_current, flags_outlast}
use Rattle.laws_client.proofs.flag_laws.flags_have_moments.Goals as goal

pub returns-clause-outlast : goal.returns-clause-outlast
returns-clause-outlast c = flags_outlast

pub returns-clause-current : goal.returns-clause-current
returns-clause-current c = flags_are_current

pub returns-clause-by_uid : goal.returns-clause-by_uid
returns-clause-by_uid c = flags_are_by_uid
