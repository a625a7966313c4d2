use Rattle.house_history.proofs.Uids.{uids_fit}
use Rattle.house_history.proofs.laws.uids_fit.Goals as goal

pub returns : goal.returns
returns c = uids_fit
