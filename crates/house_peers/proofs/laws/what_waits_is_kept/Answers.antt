use Rattle.house_peers.proofs.Waiting.{keeps_what_waits}
use Rattle.house_peers.proofs.laws.what_waits_is_kept.Goals as goal

pub returns : goal.returns
returns c = keeps_what_waits
