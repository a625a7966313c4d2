use Rattle.std.proofs.Common.{refl}
use Rattle.locked_mailbox.proofs.door.under.Goals as goal

pub returns : goal.returns
returns g c = (_, _, record { shown = _; shows = refl; left = _; met = c.once.ensures; leaves = refl })
