use Rattle.world.proofs.Waiting.{waits_always}
use Rattle.world.proofs.what_waits_was_sent.Goals as goal

pub returns : goal.returns
returns c = waits_always
