use Rattle.exactly_once.proofs.Going.{happened_once}
use Rattle.exactly_once.proofs.exactly_once_delivery.Goals as goal

pub returns : goal.returns
returns c = happened_once
