-- What saying doesn't change of an outlet stays, whatever part of an exchange was done.
use Rattle.std.proofs.Common.{◌≡◌, [], Option, None, false, Result, Ok, Err, refl}
use Rattle.mailbox.specs.declared.clients.MailFault.{MailFault}
use Rattle.imap_session.specs.declared.standing.Profile.TheVariants.{Standard}
use Rattle.imap_session.specs.declared.standing.Selected.{Selected}
use Rattle.imap_session.specs.Exchange.{Answer, Call, Exchange, Standing}
use Rattle.imap_session.specs.Response.{Response}
use Rattle.imap_session.specs.inner.Store.{Does, Moves}

-- a session of anybody: what stays doesn't depend on whose it is
abbrev pub anybody : Standing
anybody = record { folders = []; profile = Standard; login = None; selected = None; idling = None; ended = false; mailing = record { most = None; number = 0; begun = None; sent = None } }

pub does_lot : {S V : Type 0} (step : S → Call → Answer → S → Type 0) (x : Exchange) (y : V → Exchange) (old new : S) (before after : Response) (r : Result V MailFault)
    → Does step x y old new before after r → after.lot ≡ before.lot
does_lot step x y old new before after (Ok v) d = (d [] anybody).wrote.1
does_lot step x y old new before after (Err fault) d = (d [] anybody).wrote.1

pub moves_lot : {S V : Type 0} (step : S → Call → Answer → S → Type 0) (from to : Option Selected) (x : Exchange) (y : V → Exchange) (old new : S) (before after : Response) (r : Result V MailFault)
    → Moves step from to x y old new before after r → after.lot ≡ before.lot
moves_lot step from to x y old new before after (Ok v) m = (m [] (record anybody { selected = from }) refl).wrote.1
moves_lot step from to x y old new before after (Err fault) m = (m [] (record anybody { selected = from }) refl).wrote.1
