-- A client of a session over mailboxes that threads share, as a server's: what its session counts by the history, and when the client is right
-- about that.
use Rattle.std.specs.Prelude.{◌≡◌, ◌⊎◌, ℕ, ◌<◌, ◌≤◌, ◌^◌, true, List, [], ◌∷◌, ◌++◌, length, map, Option, Some, None, IfSome, Ok}
use mathlib.Core.List.{IsPrefix}
use Rattle.change_ring.specs.declared.change.Change.{Change}
use Rattle.change_ring.specs.Log as change
use Rattle.change_ring.specs.Log.{added, rows_of, view_at}
use Rattle.mailbox.specs.declared.clients.Row.{Row}
use Rattle.house_history.specs.declared.event.Event as house
use Rattle.house_history.specs.Events.{changes_in}
use Rattle.house_history.specs.Legal.{Legal}
use Rattle.imap_grammar.specs.Reading.{is_done, read}
use Rattle.imap_grammar.specs.declared.command.Command.{Command}
use Rattle.imap_grammar.specs.Verbs.{verb_of}
use Rattle.imap_session.specs.declared.standing.Selected.{Selected}
use Rattle.imap_session.specs.declared.texts.ResponseText.TheVariants as texts
use Rattle.imap_session.specs.Exchange.{Admission, Answer, begun_with, Event, Fed, Feed, Standing, Turn, tagged}
use Rattle.imap_session.specs.Commands.{turn_of, unlimited}
use Rattle.imap_session.specs.Texts.{response_text}
use Rattle.imap_session.specs.Store.{Met}
use Rattle.session_thread.specs.declared.locked_store.Entry.{Entry}
use Rattle.session_thread.specs.ByHistory.{ByHistory, WasShown}
use Rattle.session_thread.specs.Locks.{HasItsText, LockedStore}
use Rattle.laws_client.specs.Clients.{IsRight}
use Rattle.laws_client.specs.Client.{Client, Known, knowing}
use Rattle.laws_client.specs.Clients.{IsOk, IsRightAbout, has_ok, hears, hears_all}
use Rattle.laws_client.specs.Current.{shows_all}
use Rattle.laws_client.specs.RecordTurns.{Stands}
use Rattle.laws_client.specs.Flags.{CountsAll, IsRightAt, Point}
use Rattle.laws_client.specs.HouseClients.{AreFolders}
use Rattle.envelope.specs.Names.{Directory}
use Rattle.imap_session.specs.Folders.{folders_of}
use Rattle.imap_stream.specs.Visits.{HasLived, Visit}
use Rattle.imap_session.specs.Happenings.{Answer as Answer_to, Happening, Lived, Told, VerdictsArePrinted, leads_to, told_of, whole_line}

-- ---- where it is

-- where a session is in the mailbox that it has entered, by a history; nowhere in an empty one, where it has entered none
abbrev pub place_in : List house.Event → Option Entry → Point
place_in history None = record { log = []; cursor = 0 }
place_in history (Some here) = record { log = changes_in here.mailbox history; cursor = here.handle.at }

-- as far as it has seen the history
abbrev pub place_of : LockedStore → Point
place_of selection = place_in selection.history selection.entered

-- ---- a visit

-- This was told in a visit. Its session began in no mailbox, with the folders that a directory has for its user.
pub record IsVisit (told : List Told) (visit : Visit) : Type 0 where
  pub directory : Directory
  pub folders : AreFolders directory.homes
  pub user : List ℕ
  pub admission : Admission
  pub store : LockedStore
  pub outside : store.entered ≡ None
  pub taken : Option (List ℕ)
  pub heard : List ℕ
  pub lived : HasLived ByHistory (record { first = begun_with admission (folders_of directory user); store = store; taken = taken }) heard told visit

-- At each moment of a visit its client is right about what its session counts, by the history as far as the session has seen it, and about flags.
abbrev pub VisitorsAreRight : Type 0
VisitorsAreRight = (told : List Told) (visit : Visit) → IsVisit told visit → IsRightAt (place_of visit.selection) (hears_all None told)

-- Where it knew that it is in a mailbox, and its session said the OK of a NOOP or DONE last, the session counts all that is there then.
abbrev pub VisitorsCountAll : Type 0
VisitorsCountAll = (told : List Told) (one : Told) (client : Client) (visit : Visit) → IsVisit (told ++ one ∷ []) visit
    → hears_all None told ≡ Some client → IsOk one → CountsAll (place_of visit.selection)

-- ---- what it counts

-- the UIDs that the first changes of its mailbox leave, up to the cursor; none where it has selected no mailbox
abbrev pub counted_in : List house.Event → Option Entry → List ℕ
counted_in history None = []
counted_in history (Some here) = view_at (changes_in here.mailbox history) here.handle.at

-- by the history as far as the session has seen it
abbrev pub counted_by : LockedStore → List ℕ
counted_by selection = counted_in selection.history selection.entered

-- The cursor's number is one that a mailbox can count up to: no log is longer.
abbrev pub HasSmallCursor : LockedStore → Type 0
HasSmallCursor selection = IfSome selection.entered (λ here. here.handle.at ≤ 2 ^ 62)

-- ---- a turn

-- Whatever happens, whatever is refused, and whatever others do between two holds of a lock: a client that was right about what its session counts
-- before a turn hears what is said in it, and is right about what the session counts then.
abbrev pub ServedTurnIsKnown : Type 0
ServedTurnIsKnown = (old new : LockedStore) (shown : List Change) (now : Standing) (happening : Happening) (turn : Turn) (client : Option Client)
    → WasShown old shown → HasSmallCursor old → Stands now → VerdictsArePrinted happening → Legal new.history
    → leads_to now happening ≡ Some turn → Met ByHistory old turn.events new
    → IsRightAbout (counted_by old) client → IsRightAbout (counted_by new) (hears client (told_of now happening turn.bytes))

-- and the cursor's number is such a one then, whatever was called
abbrev pub CursorsStaySmall : Type 0
CursorsStaySmall = (old new : LockedStore) (events : List Event) → Met ByHistory old events new → HasSmallCursor old → HasSmallCursor new

-- ---- a life

-- Whatever its client sends and whatever others do, from where it was in no mailbox it is right about what the session counts at each moment.
abbrev pub ServedLivesAreKnown : Type 0
ServedLivesAreKnown = (first : Standing) (began : LockedStore) (sent : List ℕ) (told : List Told) (now : Standing) (selection : LockedStore)
    → began.entered ≡ None → Stands first → Legal selection.history
    → Lived ByHistory first began sent told now selection → IsRightAbout (counted_by selection) (hears_all None told)

-- ---- when its list is the mailbox

-- the UIDs of the messages that the history leaves in mailbox m, in their order
abbrev pub messages_in : ℕ → List house.Event → List ℕ
messages_in m history = map (λ (row : change.Row). row.uid) (rows_of (changes_in m history))

-- the cursor is at the end of the mailbox's log, as far as the session has seen it
abbrev pub IsAtEnd : LockedStore → Entry → Type 0
IsAtEnd selection here = here.handle.at ≡ length (changes_in here.mailbox selection.history)

-- Then what the session counts is all that is there: so a client that is right about it has a list of the mailbox as it is.
abbrev pub ServedListsAreCurrent : Type 0
ServedListsAreCurrent =
    (selection : LockedStore) (here : Entry) → selection.entered ≡ Some here → IsAtEnd selection here
    → counted_by selection ≡ messages_in here.mailbox selection.history

-- And the cursor is there where fewer changes were shown than were asked for, or all that are pending were, as at the end of NOOP (RFC 9051, 6.1.2).
abbrev pub FeedsReachTheEnd : Type 0
FeedsReachTheEnd = (old new : LockedStore) (limit : ℕ) (view : List ℕ) (changes shown : List Change)
    → WasShown old shown → ByHistory old (Feed limit) (Fed view changes) new → (length changes < limit) ⊎ (limit ≡ unlimited)
    → IfSome new.entered (IsAtEnd new)

-- So it is behind a command that `shows_all` names whose answer's last line says that it is done.
abbrev pub ServedCommandsReachTheEnd : Type 0
ServedCommandsReachTheEnd =
    (old new : LockedStore) (shown : List Change) (now : Standing) (line whole tag : List ℕ) (command : Command) (selected : Selected)
    (answers : List Answer) (turn : Turn) (front : List ℕ)
    → WasShown old shown → now.selected ≡ Some selected → turn_of now line answers ≡ Some turn → Met ByHistory old turn.events new
    → whole_line now line ≡ Some whole → read whole ≡ Ok (tag, command) → shows_all command ≡ true
    → turn.bytes ≡ front ++ tagged tag (response_text (texts.Completed (verb_of command)))
    → IfSome new.entered (IsAtEnd new)

-- and behind a DONE, where the IDLE that it ends is answered OK (RFC 2177)
abbrev pub ServedDoneReachesTheEnd : Type 0
ServedDoneReachesTheEnd =
    (old new : LockedStore) (shown : List Change) (now : Standing) (line tag : List ℕ) (selected : Selected) (answers : List Answer) (turn : Turn)
    → WasShown old shown → Stands now → now.selected ≡ Some selected → turn_of now line answers ≡ Some turn → Met ByHistory old turn.events new
    → now.mailing.begun ≡ None → now.idling ≡ Some tag → is_done line ≡ true → has_ok true tag turn.bytes ≡ true
    → IfSome new.entered (IsAtEnd new)

-- In a session's life: a client that knows where it is sends one of the lines of `shows_all`. When it has read
-- the answer to its end it still knows, and its list is the mailbox as its session found it last.
abbrev pub ServedCommandsMakeCurrent : Type 0
ServedCommandsMakeCurrent =
    (first : Standing) (began : LockedStore) (sent : List ℕ) (told : List Told) (now : Standing) (selection : LockedStore) (client : Client)
    (line whole tag : List ℕ) (command : Command) (answers : List Answer) (turn : Turn) (next : LockedStore) (front : List ℕ) (here : Entry)
    → began.entered ≡ None → Stands first → Legal next.history
    → Lived ByHistory first began sent told now selection → hears_all None told ≡ Some client
    → turn_of now line answers ≡ Some turn → Met ByHistory selection turn.events next
    → whole_line now line ≡ Some whole → read whole ≡ Ok (tag, command) → shows_all command ≡ true
    → turn.bytes ≡ front ++ tagged tag (response_text (texts.Completed (verb_of command)))
    → next.entered ≡ Some here
    → (list : List Known) × (hears_all None (told ++ Answer_to whole turn.bytes ∷ []) ≡ Some (knowing (Some list)))
    × IsRight (messages_in here.mailbox next.history) list

-- ---- texts

-- Two texts that were told under one UID of one mailbox, at whatever moments, are the same (RFC 9051, 2.3.1.1).
abbrev pub ServedTextsStay : Type 0
ServedTextsStay = (before after : List house.Event) (m : ℕ) (a b : Row) → Legal after → IsPrefix before after
    → HasItsText before m (Some a) → HasItsText after m (Some b) → a.uid ≡ b.uid → a.text ≡ b.text
