use Rattle.std.proofs.Common.{refl}
use Rattle.locked_mailbox.proofs.door.under_with.Goals as goal

pub returns : goal.returns
returns g c = (_, _, record { shown = _; shows = refl; lent = _; lends = refl; left = _; back = _; met = c.once.ensures; leaves = refl; gives = refl })
