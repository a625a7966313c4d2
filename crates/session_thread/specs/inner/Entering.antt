-- What bodies and proofs say besides: what a hold does by which a client is to be let in, and what a session has seen behind a hold.
use Rattle.std.specs.Prelude.{◌≡◌, ◌≢◌, ℕ, ◌⊎◌, List, Result, Ok, Err}
use Rattle.house_history.specs.declared.event.Event.{Event}
use Rattle.cursor_set.specs.Cursors.{CursorHandle}
use Rattle.mailbox.specs.Mailbox.{Mailbox, IsKept}
use Rattle.mailbox.specs.declared.clients.MailFault.{MailFault}
use Rattle.mailbox.specs.declared.clients.MailFault.TheVariants.{Stranger}
use Rattle.mailbox.specs.declared.clients.Opening.{Opening}
use Rattle.workers_sync.specs.Holds.{Enters, EntersNot}

-- A client was let into the mailbox of this number, or not: the one that was found has the number, and did so; or it has another, and nothing was
-- done.
abbrev pub DoesEnterAt : ℕ → Mailbox → Result (CursorHandle × Opening) MailFault → Mailbox → Type 0
DoesEnterAt number found (Ok entered) left = (found.number ≡ number) × Enters found entered.1 left entered.0
DoesEnterAt number found (Err fault) left = (left ≡ found) × ((found.number ≡ number) × IsKept found × EntersNot fault found ⊎ (found.number ≢ number)
    × (fault ≡ Stranger))

-- What was seen of the history behind a hold that was answered so: a call that is refused leaves it as it was.
abbrev pub seen_behind : {A F : Type 0} → Result A F → List Event → List Event → List Event
seen_behind (Ok x) before after = after
seen_behind (Err fault) before after = before
