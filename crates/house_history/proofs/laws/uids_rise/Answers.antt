use Rattle.house_history.proofs.Standing.{uids_rise}
use Rattle.house_history.proofs.laws.uids_rise.Goals as goal

pub returns : goal.returns
returns c = uids_rise
