-- What a session does to mailboxes and is told of them, by the one history that all threads of a house share. Who believes this need not know how a
-- mailbox keeps its messages, nor that it stands behind a lock.
use Rattle.std.specs.Prelude.{◌≡◌, ℕ, ◌+◌, ◌-◌, ◌^◌, ◌<◌, ◌≤◌, ◌==◌, List, [], ◌++◌, length, min, option_map, Option, Some, None, IfSome, ◌∷◌}
use Rattle.std.specs.List.{find}
use mathlib.Core.List.{IsPrefix}
use Rattle.shared_history.specs.Pages.{part}
use Rattle.change_ring.specs.declared.change.Change.{Change}
use Rattle.change_ring.specs.declared.change.Flags.{Flags}
use Rattle.change_ring.specs.Log.{Row, rows_of, view_at}
use Rattle.house_history.specs.Events.{changes_in, concerns, logged}
use Rattle.mailbox.specs.Events.{was_logged}
use Rattle.mailbox.specs.declared.clients.Opening.{Opening}
use Rattle.imap_session.specs.Exchange.{Call, Answer, Enter, Look, Read, Count, Alter, Expunge, Feed, Leave, Discard, Entered, Looked, Found, Counted, Altered, Expunged, Fed, Left, Discarded, Refused, Event}
use Rattle.imap_session.specs.Store.{Met}
use Rattle.session_thread.specs.declared.locked_store.Entry.{Entry}
use Rattle.session_thread.specs.Locks.{HasItsText, HasStatus, Holds, In, LockedStore, says}
use Rattle.mailbox.specs.Mailbox.{next_of}
use Rattle.house_history.specs.declared.event.Event as house
use Rattle.house_history.specs.declared.event.Step.TheVariants as steps
use Rattle.mailbox.specs.declared.clients.Row as read

-- ---- what a session was shown since its SELECT

-- what a session was shown since its last SELECT, when its store has answered once more: nothing where it is in no mailbox
abbrev pub shown_then : List Change → Answer → List Change
shown_then shown (Entered opening) = []
shown_then shown (Fed view changes) = shown ++ changes
shown_then shown (Expunged view changes gone) = shown ++ changes
shown_then shown (Left gone) = []
shown_then shown answer = shown

-- the same behind all these calls
abbrev pub shown_since : List Change → List Event → List Change
shown_since shown [] = shown
shown_since shown (event ∷ events) = shown_since (shown_then shown event.answer) events

-- What was shown is exactly the mailbox's changes in the history, from where its log ended at the SELECT up to the cursor, in order.
pub record IsUpToCursor (history : List house.Event) (here : Entry) (shown : List Change) : Type 0 where
  pub handle : here.handle.number ≡ here.mailbox
  pub cursor : here.handle.at ≡ here.start + length shown
  pub within : here.handle.at ≤ length (changes_in here.mailbox history)
  pub changes : shown ≡ next_of (changes_in here.mailbox history) here.start (length shown)

abbrev pub WasShownIn : List house.Event → Option Entry → List Change → Type 0
WasShownIn history None shown = shown ≡ []
WasShownIn history (Some here) shown = IsUpToCursor history here shown

-- by the history as far as the session has seen it
abbrev pub WasShown : LockedStore → List Change → Type 0
WasShown selection shown = WasShownIn selection.history selection.entered shown

-- What SELECT tells is how many messages the history leaves there, and what is shown from then on begins where its log ends.
pub record Opens (history : List house.Event) (here : Entry) (opening : Opening) : Type 0 where
  pub count : opening.count ≡ length (rows_of (changes_in here.mailbox history))
  pub start : here.start ≡ length (changes_in here.mailbox history)

-- The view that a call met is what the mailbox's first changes leave, up to the cursor; and it showed the next ones.
pub record Shows (history : List house.Event) (here : Entry) (view : List ℕ) (changes : List Change) : Type 0 where
  pub met : view ≡ view_at (changes_in here.mailbox history) here.handle.at
  pub showed : changes ≡ next_of (changes_in here.mailbox history) here.handle.at (length changes)

-- What an answer tells of the mailbox that the session is in, the history says.
abbrev pub Tells : LockedStore → Answer → LockedStore → Type 0
Tells old (Entered opening) new = IfSome new.entered (λ here. Opens new.history here opening)
Tells old (Looked view) new = IfSome old.entered (λ here. Shows old.history here view [])
Tells old (Found row) new = IfSome old.entered (λ here. HasItsText new.history here.mailbox row)
Tells old (Fed view changes) new = IfSome old.entered (λ here. Shows new.history here view changes)
Tells old (Expunged view changes gone) new = IfSome old.entered (λ here. Shows new.history here view changes)
Tells old answer new = Unit {0}

-- One call: the history goes on, what it tells is so, and what was shown since SELECT is up to the cursor still.
abbrev pub ShownByCall : Type 0
ShownByCall = (old new : LockedStore) (call : Call) (answer : Answer) (shown : List Change) → Holds old call answer new → WasShown old shown
    → IsPrefix old.history new.history × Tells old answer new × WasShown new (shown_then shown answer)

-- And so behind any calls, whatever others do between two of them.
abbrev pub ShownSinceSelect : Type 0
ShownSinceSelect = (old new : LockedStore) (events : List Event) (shown : List Change) → Met Holds old events new → WasShown old shown
    → IsPrefix old.history new.history × WasShown new (shown_since shown events)

-- ---- a call, by the history

-- the flags that the message of a UID has by a log, if it is there
abbrev pub flags_in : ℕ → List Change → Option Flags
flags_in uid log = option_map (λ (row : Row). row.flags) (find (λ (row : Row). row.uid == uid) (rows_of log))

module _ (old new : LockedStore) where
  -- The session has seen more of the history, in which just this was said of mailbox m, behind what had happened there before and had been
  -- seen of it. No log has more changes than can be numbered.
  pub record Logs (m : ℕ) (said : List house.Event) : Type 0 where
    pub goes_on : IsPrefix old.history new.history
    pub mailboxes : new.mailboxes ≡ old.mailboxes
    pub found : List house.Event
    pub seen : IsPrefix (part concerns m old.history) found
    pub own : part concerns m new.history ≡ found ++ said
    pub few : length (changes_in m new.history) ≤ 2 ^ 62

  -- It is where it was, with the handle that it had, whose cursor has gone over so many changes more, within the log.
  pub record Moves (here : Entry) (count : ℕ) : Type 0 where
    pub there : new.entered ≡ Some (record here { handle = record here.handle { at = here.handle.at + count } })
    pub within : here.handle.at + count ≤ length (changes_in here.mailbox new.history)

  -- It has entered mailbox m, with a handle whose cursor is at the end of the log, and was told what the history leaves there.
  pub record Comes (m : ℕ) (opening : Opening) (here : Entry) : Type 0 where
    pub there : new.entered ≡ Some here
    pub acceptor : m < old.mailboxes
    pub mailbox : here.mailbox ≡ m
    pub number : here.handle.number ≡ m
    pub cursor : here.handle.at ≡ here.start
    pub logs : Logs m []
    pub opens : Opens new.history here opening
    pub fits : (opening.uidnext < 2 ^ 32) × (opening.uidvalidity < 2 ^ 32)

-- A message that was read has the UID that was asked for, the text that was stored under it, and its flags as the history leaves them.
pub record IsRead (history : List house.Event) (m uid : ℕ) (row : Option read.Row) : Type 0 where
  pub uid_of : IfSome row (λ found. found.uid ≡ uid)
  pub text : HasItsText history m row
  pub flags : option_map (λ (found : read.Row). found.flags) row ≡ flags_in uid (changes_in m history)
  pub fits : IfSome row (λ found. length found.text.bytes < 2 ^ 64)

-- One call of a session, with its answer. A call that is refused leaves all as it was.
abbrev pub ByHistory : LockedStore → Call → Answer → LockedStore → Type 0
ByHistory old call (Refused fault) new = new ≡ old
ByHistory old (Enter m) (Entered opening) new = (old.entered ≡ None) × (here : Entry) × Comes old new m opening here
ByHistory old (Look by_uid set) (Looked view) new = (new ≡ old) × In old (λ here. view ≡ view_at (changes_in here.mailbox old.history) here.handle.at)
ByHistory old (Read uid mark) (Found row) new =
    (new.entered ≡ old.entered) × In old (λ here. (logs : Logs old new here.mailbox (says (steps.Read uid mark) here.mailbox))
    × IsRead new.history here.mailbox uid row
    × IfSome row (λ found. found.newly_seen ≡ was_logged (logged (steps.Read uid mark) (rows_of (changes_in here.mailbox logs.found)))))
ByHistory old (Count m) (Counted status) new =
    (new.entered ≡ old.entered) × (m < old.mailboxes) × Logs old new m [] × (status.messages ≡ length (rows_of (changes_in m new.history)))
    × HasStatus status
ByHistory old (Alter uid op) (Altered flags) new =
    (new.entered ≡ old.entered) × In old (λ here. Logs old new here.mailbox (says (steps.Alter uid op) here.mailbox)
    × (flags ≡ flags_in uid (changes_in here.mailbox new.history)))
-- all that was pending is shown, and then the messages are removed
ByHistory old (Expunge uids) (Expunged view changes gone) new =
    In old (λ here. (logs : Logs old new here.mailbox (says (steps.Expunge uids) here.mailbox)) × Shows new.history here view changes
    × (here.handle.at + length changes ≡ length (changes_in here.mailbox logs.found))
    × (gone ≡ length (logged (steps.Expunge uids) (rows_of (changes_in here.mailbox logs.found)))) × Moves old new here (length changes))
ByHistory old (Feed limit) (Fed view changes) new =
    In old (λ here. Logs old new here.mailbox [] × Shows new.history here view changes
    × (length changes ≡ min limit (length (changes_in here.mailbox new.history) - here.handle.at)) × Moves old new here (length changes))
ByHistory old (Leave remove) (Left gone) new =
    (new.entered ≡ None) × In old (λ here. (logs : Logs old new here.mailbox (says (steps.Leave remove) here.mailbox))
    × (gone ≡ length (logged (steps.Leave remove) (rows_of (changes_in here.mailbox logs.found)))))
ByHistory old (Discard m uids) Discarded new = (new.entered ≡ old.entered) × (m < old.mailboxes) × Logs old new m (says (steps.Discard uids) m)
ByHistory old call answer new = ⊥

-- ---- what holds of it

-- Each hold of a lock is such a call.
abbrev pub HoldsAreByHistory : Type 0
HoldsAreByHistory = (old new : LockedStore) (call : Call) (answer : Answer) (shown : List Change) → Holds old call answer new → WasShown old shown
    → ByHistory old call answer new

-- Behind any such calls, whatever others do between two of them, what was shown since SELECT is exactly the mailbox's changes up to the cursor.
abbrev pub ShownByHistory : Type 0
ShownByHistory = (old new : LockedStore) (events : List Event) (shown : List Change) → Met ByHistory old events new → WasShown old shown
    → IsPrefix old.history new.history × WasShown new (shown_since shown events)
