-- What a mailbox kept of its copies is numbered as they are.
use Rattle.std.proofs.Common.{[], refl}
use Rattle.mailbox.specs.Accepted.{kept_of}
use Rattle.mailbox.specs.Mailbox.{Mailbox, IsKept}
use Rattle.mailbox.specs.declared.history.History.{History}
use Rattle.mailbox.specs.declared.history.History.TheVariants.{Kept, Unkept}
use Rattle.reckoning.specs.Shelves.{AreNumbered}

pub kept_numbered : (history : History) (m : Mailbox) → IsKept m → AreNumbered (kept_of history m.accepted)
kept_numbered Kept m keeps = (m.first_uid, keeps.numbered)
kept_numbered Unkept m keeps = (0, refl)
