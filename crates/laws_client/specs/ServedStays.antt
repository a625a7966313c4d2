-- What stays of a session while it neither enters a mailbox nor leaves one.
use Rattle.std.specs.Prelude.{◌≡◌, ◌+◌, Bool, true, false, List, [], length, Some}
use Rattle.std.specs.List.{list_all}
use Rattle.imap_session.specs.Exchange.{Answer, Entered, Event, Left}
use Rattle.imap_session.specs.Store.{Met}
use Rattle.session_thread.specs.declared.locked_store.Entry.{Entry}
use Rattle.session_thread.specs.ByHistory.{ByHistory, shown_since}
use Rattle.session_thread.specs.Locks.{In, LockedStore}

-- the session neither entered a mailbox by it nor left one
abbrev pub stays_by : Answer → Bool
stays_by (Entered opening) = false
stays_by (Left gone) = false
stays_by answer = true

-- Then it is in the same mailbox, since the same SELECT, with the handle that it had, gone on by as many changes as were shown.
abbrev pub ServedSessionsStay : Type 0
ServedSessionsStay = (old new : LockedStore) (events : List Event) (here : Entry) → Met ByHistory old events new
    → list_all (λ (e : Event). stays_by e.answer) events ≡ true → old.entered ≡ Some here
    → In new (λ there. (there.mailbox ≡ here.mailbox) × (there.start ≡ here.start)
    × (there.handle ≡ record here.handle { at = here.handle.at + length (shown_since [] events) }))
