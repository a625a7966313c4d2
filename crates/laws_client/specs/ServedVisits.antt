-- The visits of a server's clients, call by call, as lives of their sessions, and what their clients are right about.
use Rattle.std.specs.Prelude.{◌≡◌, ℕ, false, List, [], ◌++◌, Option, None}
use Rattle.house_history.specs.Legal.{Legal}
use Rattle.settings.specs.Settings.{IsInRange, config_fault, directory_for}
use Rattle.settings.specs.declared.config.Config.{Config}
use Rattle.imap_session.specs.Exchange.{Admission, Folder, begun_with}
use Rattle.imap_session.specs.Folders.{folders_of}
use Rattle.imap_session.specs.Happenings.{Told}
use Rattle.session_thread.specs.ByHistory.{ByHistory}
use Rattle.session_thread.specs.Locks.{Holds, LockedStore}
use Rattle.imap_stream.specs.declared.client_slot.Parting.{Parting}
use Rattle.imap_stream.specs.Attending.{Attended, Calls, HasCalled}
use Rattle.imap_stream.specs.Visits.{Beginning, HasLived, IsGreeted, Visit, is_over}
use Rattle.laws_client.specs.Clients.{IsRightAbout, hears_all}
use Rattle.laws_client.specs.RecordTurns.{Stands}
use Rattle.laws_client.specs.Served.{counted_by}
use Rattle.laws_client.specs.Served.{place_of}
use Rattle.laws_client.specs.Flags.{IsRightOnFlags}

-- A client that was greeted has begun its visit, however its session was to begin.
abbrev pub VisitsBegin : Type 0
VisitsBegin = (admission : Admission) (folders : List Folder) (store : LockedStore) (taken : Option (List ℕ)) (visit : Visit)
    → Legal store.history → IsGreeted admission folders store taken visit
    → HasLived Holds (record { first = begun_with admission folders; store = store; taken = taken }) [] [] visit

-- Whoever makes the call, and whatever others did since the one before: the visit goes on, and its client was told something more, or nothing.
abbrev pub VisitsGoOn : Type 0
VisitsGoOn = (beginning : Beginning) (heard piece : List ℕ) (told : List Told) (old new : Visit) → HasLived Holds beginning heard told old
    → is_over old ≡ false → HasCalled piece old new
    → (more : List Told) × HasLived Holds beginning (heard ++ piece) (told ++ more) new

-- So go calls of a visit, one after another.
abbrev pub CallsGoOn : Type 0
CallsGoOn = (beginning : Beginning) (before heard : List ℕ) (told : List Told) (old new : Visit) → HasLived Holds beginning before told old
    → Calls old heard new
    → (more : List Told) × HasLived Holds beginning (before ++ heard) (told ++ more) new

-- A client that was greeted, and then attended by a client slot's thread: the calls that were made are such a life, of just the bytes that were
-- heard.
abbrev pub AttendedClientsLive : Type 0
AttendedClientsLive =
    (admission : Admission) (folders : List Folder) (store : LockedStore) (taken before after : Option (List ℕ)) (how : Parting)
    (old new : Visit) → Legal store.history
    → IsGreeted admission folders store taken old → (attended : Attended before after how old new)
    → (told : List Told)
    × HasLived Holds (record { first = begun_with admission folders; store = store; taken = taken }) attended.heard told attended.last

-- What was lived hold by hold was lived by the history.
abbrev pub VisitsAreByHistory : Type 0
VisitsAreByHistory = (beginning : Beginning) (heard : List ℕ) (told : List Told) (visit : Visit) → beginning.store.entered ≡ None
    → HasLived Holds beginning heard told visit → HasLived ByHistory beginning heard told visit

-- What a session has to know at first it knows, of whichever user it is, where nothing
-- is wrong with the settings: the names of its mailboxes stand in lines.
abbrev pub VisitorsStand : Type 0
VisitorsStand = (config : Config) (admission : Admission) (user : List ℕ) → IsInRange config → config_fault config ≡ None
    → Stands (begun_with admission (folders_of (directory_for config) user))

-- So at each moment of a visit its client is right about what the session counts, and about flags.
abbrev pub VisitorsKeepUp : Type 0
VisitorsKeepUp = (beginning : Beginning) (heard : List ℕ) (told : List Told) (visit : Visit) → beginning.store.entered ≡ None
    → Stands beginning.first → HasLived ByHistory beginning heard told visit
    → IsRightAbout (counted_by visit.selection) (hears_all None told) × IsRightOnFlags (place_of visit.selection) (hears_all None told)
