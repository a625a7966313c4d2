use Rattle.house_history.proofs.Standing.{keys_in_order}
use Rattle.house_history.proofs.laws.accepted_in_order.Goals as goal

pub returns : goal.returns
returns c history m p legal = keys_in_order history m p legal
