use Rattle.exactly_once.proofs.AnyGoing.{happened_once}
use Rattle.exactly_once.proofs.exactly_once_over_any.Goals as goal

pub returns : goal.returns
returns g c = happened_once g.D.Dialogues.peers g.D.Dialogues.speaks g.D.Dialogues.visits
