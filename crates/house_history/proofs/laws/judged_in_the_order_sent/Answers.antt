use Rattle.house_history.proofs.Standing.{in_the_order_sent}
use Rattle.house_history.proofs.laws.judged_in_the_order_sent.Goals as goal

pub returns : goal.returns
returns c = in_the_order_sent
