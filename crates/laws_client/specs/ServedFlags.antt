-- What a client of a session over mailboxes behind locks believes of flags, and when it is so.
use Rattle.std.specs.Prelude.{◌≡◌, ℕ, List, [], Option, Some, None}
use mathlib.Core.List.{IsPrefix}
use Rattle.change_ring.specs.declared.change.Change.{Change}
use Rattle.change_ring.specs.Words.{flag_words}
use Rattle.house_history.specs.declared.event.Event as house
use Rattle.house_history.specs.Events.{changes_in}
use Rattle.house_history.specs.Legal.{Legal}
use Rattle.imap_session.specs.Exchange.{Alter, Altered, Answer, Call, Found, Read, Standing, Turn}
use Rattle.imap_session.specs.Store.{Met}
use Rattle.session_thread.specs.declared.locked_store.Entry.{Entry}
use Rattle.session_thread.specs.ByHistory.{ByHistory, WasShown}
use Rattle.session_thread.specs.Locks.{LockedStore}
use Rattle.laws_client.specs.Clients.{Each}
use Rattle.laws_client.specs.Client.{Client, Known, knowing}
use Rattle.laws_client.specs.Clients.{hears, hears_all}
use Rattle.laws_client.specs.Flags.{BelievesNow, FlagsOf, HasNow}
use Rattle.laws_client.specs.RecordTurns.{Stands}
use Rattle.laws_client.specs.Served.{HasSmallCursor, IsAtEnd, messages_in, place_in, place_of}
use Rattle.imap_session.specs.Happenings.{Happening, Lived, Told, VerdictsArePrinted, leads_to, told_of}
use Rattle.laws_client.specs.Flags.{IsRightOnFlags}

-- ---- a call

-- this holds of the UID and of the names of the flags that an answer tells: those of a row that was read, and those behind a STORE
abbrev pub OfToldFlags : (ℕ → List (List ℕ) → Type 0) → Call → Answer → Type 0
OfToldFlags P (Read uid mark) (Found (Some row)) = P uid (flag_words row.flags)
OfToldFlags P (Alter uid change) (Altered (Some flags)) = P uid (flag_words flags)
OfToldFlags P call answer = Unit {0}

-- They are those that the message has when the lock is let go.
abbrev pub ServedFlagsAreFound : Type 0
ServedFlagsAreFound = (old new : LockedStore) (call : Call) (answer : Answer) (shown : List Change)
    → WasShown old shown → ByHistory old call answer new → OfToldFlags (HasNow (place_of new).log) call answer

-- So by any later history, whatever others have done since, the message had them at a moment that isn't before the cursor.
abbrev pub ServedFlagsHaveMoments : Type 0
ServedFlagsHaveMoments = (old new : LockedStore) (call : Call) (answer : Answer) (shown : List Change) (later : List house.Event)
    → WasShown old shown → ByHistory old call answer new → IsPrefix new.history later
    → OfToldFlags (FlagsOf (place_in later new.entered).log (place_in later new.entered).cursor) call answer

-- ---- turns and lives

-- Whatever happens in a turn, and whatever others do between two holds of a lock: a client
-- that was right about flags hears what is said, and is right about flags then.
abbrev pub ServedTurnTellsFlags : Type 0
ServedTurnTellsFlags = (old new : LockedStore) (shown : List Change) (now : Standing) (happening : Happening) (turn : Turn) (client : Option Client)
    → WasShown old shown → HasSmallCursor old → Stands now → VerdictsArePrinted happening → Legal new.history
    → leads_to now happening ≡ Some turn → Met ByHistory old turn.events new
    → IsRightOnFlags (place_of old) client → IsRightOnFlags (place_of new) (hears client (told_of now happening turn.bytes))

-- From where its session was in no mailbox it is right about flags at each moment of the session's life.
abbrev pub ServedLivesTellFlags : Type 0
ServedLivesTellFlags = (first : Standing) (began : LockedStore) (sent : List ℕ) (told : List Told) (now : Standing) (selection : LockedStore)
    → began.entered ≡ None → Stands first → Legal selection.history
    → Lived ByHistory first began sent told now selection → IsRightOnFlags (place_of selection) (hears_all None told)

-- ---- flags as they are

-- where it knows that it is in mailbox m, its list is as long as the mailbox, and all that it knows of flags is what they are by this history
abbrev pub KnowsFlagsNow : ℕ → List house.Event → Option Client → Type 0
KnowsFlagsNow m history None = Unit {0}
KnowsFlagsNow m history (Some client) =
    (list : List Known) × (client ≡ knowing (Some list)) × Each (BelievesNow (changes_in m history)) (messages_in m history) list

-- So it is where the cursor is at the end of the mailbox's log, as far as the session has seen it.
abbrev pub ServedFlagsAreCurrent : Type 0
ServedFlagsAreCurrent = (selection : LockedStore) (here : Entry) (client : Option Client) → selection.entered ≡ Some here → IsAtEnd selection here
    → IsRightOnFlags (place_of selection) client → KnowsFlagsNow here.mailbox selection.history client
