-- What a session does to mailboxes behind locks: each call takes the lock of one mailbox, does one thing to it, says in the house's history what it
-- did, and lets go.
use Rattle.std.specs.Prelude.{◌≡◌, ◌≢◌, ℕ, ◌-◌, ◌^◌, ◌<◌, ◌≤◌, ◌⊎◌, Bool, true, List, [], ◌∷◌, length, drop, min, Option, Some, None, IfSome, IsSome, Result, Ok, Err}
use Rattle.change_ring.specs.declared.change.Change.{Change}
use Rattle.change_ring.specs.Log.{view_at, flags_logged, removals, removals_if, seen_logged, total}
use Rattle.cursor_set.specs.Cursors.{CursorHandle}
use Rattle.imap_grammar.specs.Sets.{names_one}
use Rattle.imap_grammar.specs.declared.set.SeqRange.{SeqRange}
use Rattle.mailbox.specs.Events.{IsStranger, IsTooMany, in_set}
use Rattle.mailbox.specs.Mailbox.{Mailbox, message_with, rows, IsKept, Stands, next_of}
use Rattle.mailbox.specs.declared.clients.MailFault.{MailFault}
use Rattle.mailbox.specs.declared.clients.MailFault.TheVariants.{Stranger, Lapped, Spent, NoMemory}
use Rattle.mailbox.specs.declared.clients.Opening.{Opening}
use Rattle.mailbox.specs.declared.clients.Row.{Row}
use Rattle.mailbox.specs.declared.mailbox.Status.{Status}
use Rattle.house_history.specs.declared.event.Event.{Event}
use Rattle.house_history.specs.declared.event.Event.TheVariants.{Changed}
use Rattle.house_history.specs.declared.event.Step.{Step}
use Rattle.house_history.specs.declared.event.Step.TheVariants as steps
use Rattle.house_history.specs.Legal.{HasText}
use Rattle.locked_mailbox.specs.Locking.{Knows, LockedMailbox}
use Rattle.workers_sync.specs.Holds.{Alters, Counts, Discards, DoesDiscard, Enters, EntersNot, Expunges, Feeds, IsRefused, HasCursor, Leaves, LeavesNot, Reads, UnderLock}
use Rattle.imap_session.specs.Exchange.{Call, Answer, Enter, Look, Read, Count, Alter, Expunge, Feed, Leave, Discard, Entered, Looked, Found, Counted, Altered, Expunged, Fed, Left, Discarded, Refused}
use Rattle.session_thread.specs.declared.locked_store.Entry.{Entry}

-- What a session knows between two calls: how many mailboxes there are, the handle that it has in one of them, and how the house's history begins, as
-- far as it has seen it.
pub record LockedStore : Type 0 where
  pub mailboxes : ℕ
  pub entered : Option Entry
  pub history : List Event

-- The session is in a mailbox, and this holds of its handle there.
abbrev pub In : LockedStore → (Entry → Type 0) → Type 0
In selection P = (here : Entry) × (selection.entered ≡ Some here) × P here

-- the session where it is, when it has seen so much of the history
abbrev pub seeing : LockedStore → List Event → LockedStore
seeing selection history = record { mailboxes = selection.mailboxes; entered = selection.entered; history = history }

-- the session with this handle, in the mailbox that it had entered
abbrev pub entered_at : LockedStore → Entry → CursorHandle → List Event → LockedStore
entered_at selection here handle history =
    record {
      mailboxes = selection.mailboxes;
      entered = Some (record { mailbox = here.mailbox; start = here.start; handle = handle });
      history = history;
    }

-- the session in no mailbox
abbrev pub outside : LockedStore → List Event → LockedStore
outside selection history = record { mailboxes = selection.mailboxes; entered = None; history = history }

-- ---- one hold

-- what is said of a mailbox in the history: that a client did this there, or nothing
abbrev pub says : Step → ℕ → List Event
says step mailbox = Changed mailbox step ∷ []

abbrev pub says_nothing : ℕ → List Event
says_nothing mailbox = []

-- A lock was taken by a session that had seen so much of the history: this mailbox was found, this was done to it, it was left like that, and just
-- this was said of it. Then the lock was let go, and the session has seen so much more of the history: all that has happened to that mailbox.
abbrev pub Held : List Event → List Event → (ℕ → List Event) → (Mailbox → Mailbox → Type 0) → Type 0
Held before after said P = (found : LockedMailbox) × (left : LockedMailbox) × P found.mailbox left.mailbox
    × Knows found left (said found.mailbox.number) before after

-- the text of the message that was read is that of the copy which was stored there under its UID
abbrev pub HasItsText : List Event → ℕ → Option Row → Type 0
HasItsText history mailbox found = IfSome found (λ row. HasText history mailbox row.uid row.text)

-- ---- calls

module _ (found : Mailbox) (handle : CursorHandle) where
  -- What a client was shown is the log's, for each log for which the mailbox that was found stood: what it counted is what the log's first changes
  -- leave, and the changes are those that were due.
  abbrev pub ShowsOf : List ℕ → List Change → (List Change → List Change) → Type 0
  ShowsOf view changes due = (log : List Change) → Stands found log → (view ≡ view_at log handle.at) × (changes ≡ due log)

-- Why a call on the mailbox that was entered was refused: there is none, and no lock was taken; or the one that was found refused it, and was left
-- as it was. Where `spent`, its log has no room for what the call would log; and memory is wanted only where `wants`.
pub data TurnsAway (selection : LockedStore) (spent wants : Mailbox → CursorHandle → Type 0) (fault : MailFault) : Type 0 where
  nowhere : selection.entered ≡ None → fault ≡ Stranger → TurnsAway selection spent wants fault
  refused_here : (here : Entry) (found left : Mailbox) → selection.entered ≡ Some here
      → IsRefused found here.handle (spent found here.handle) (wants found here.handle) fault left
      → TurnsAway selection spent wants fault

-- Why a session doesn't enter: it is in a mailbox or there is none of this number, and no lock was taken; or the one that was found didn't let it in,
-- or has another number, and was left as it was.
pub data StaysOut (selection : LockedStore) (mailbox : ℕ) (fault : MailFault) : Type 0 where
  no_acceptor : (selection.entered ≡ None → ⊥) ⊎ (selection.mailboxes ≤ mailbox) → fault ≡ Stranger → StaysOut selection mailbox fault
  not_let_in : (found left : Mailbox) → selection.entered ≡ None → mailbox < selection.mailboxes → found.number ≡ mailbox → IsKept found
      → left ≡ found → EntersNot fault found
      → StaysOut selection mailbox fault
  another_there : (found left : Mailbox) → selection.entered ≡ None → mailbox < selection.mailboxes → found.number ≢ mailbox → left ≡ found
      → fault ≡ Stranger → StaysOut selection mailbox fault

-- the mailbox of this number was counted, or another was found; and nothing was changed
abbrev pub DoesCountAt : ℕ → Mailbox → Result Status MailFault → Mailbox → Type 0
DoesCountAt number found (Ok status) left = (found.number ≡ number) × (left ≡ found) × Counts found status
DoesCountAt number found (Err fault) left = (found.number ≢ number) × (left ≡ found) × (fault ≡ Stranger)

module _ (number : ℕ) (uids : List ℕ) where
  -- the messages of these UIDs were removed from the mailbox of this number, or its log has no room for that; or another was found. What isn't done
  -- changes nothing
  abbrev pub DoesDiscardAt : Mailbox → Result (Unit {0}) MailFault → Mailbox → Type 0
  DoesDiscardAt found (Ok done) left = (found.number ≡ number) × Discards found uids left
  DoesDiscardAt found (Err Stranger) left = (found.number ≢ number) × (left ≡ found)
  DoesDiscardAt found (Err fault) left = (found.number ≡ number) × DoesDiscard found uids (Err fault) left

module _ (by_uid : Bool) (set : List SeqRange) where
  -- Why a look at a mailbox that was entered told of no messages: the handle is a stranger, or memory was refused. That is wanted only where the set
  -- names a message of the view.
  abbrev pub LooksNot : MailFault → Mailbox → CursorHandle → Type 0
  LooksNot Stranger found handle = IsKept found × IsStranger found handle
  LooksNot Lapped found handle = ⊥
  LooksNot Spent found handle = ⊥
  LooksNot NoMemory found handle = IsKept found × (view : List ℕ) × HasCursor found handle view × (names_one by_uid set view ≡ true)

-- The numbers in an answer are those of the code's types: 32 bits for a UID and a UIDVALIDITY (RFC 9051, 2.3.1.1), 64 for a count of messages or of a
-- text's bytes. The SIZE of a STATUS has 128, since it is the sum of the lengths of texts.
pub record HasStatus (status : Status) : Type 0 where
  pub messages : status.messages < 2 ^ 64
  pub uidnext : status.uidnext < 2 ^ 32
  pub uidvalidity : status.uidvalidity < 2 ^ 32
  pub unseen : status.unseen < 2 ^ 64
  pub deleted : status.deleted < 2 ^ 64
  pub size : status.size < 2 ^ 128

abbrev pub HasOpening : Opening → Type 0
HasOpening opening = (opening.uidnext < 2 ^ 32) × (opening.uidvalidity < 2 ^ 32)

abbrev pub HasRow : Option Row → Type 0
HasRow row = IfSome row (λ found. length found.text.bytes < 2 ^ 64)

-- One call of a session over locks, with its answer. Of the mailbox nothing is known but what the call finds, and what the history says of it by
-- then; and its number: the one that was asked for, and in a mailbox that was entered the handle's, which is that one. A call that is refused leaves
-- the session as it was.
abbrev pub Holds : LockedStore → Call → Answer → LockedStore → Type 0
Holds old (Enter m) (Entered opening) new =
    (old.entered ≡ None) × (m < old.mailboxes)
    × ((handle : CursorHandle) × Held old.history new.history says_nothing (λ found left. (found.number ≡ m) × Enters found opening left handle)
    × (new ≡ record {
      mailboxes = old.mailboxes;
      entered = Some (record { mailbox = m; start = handle.at; handle = handle });
      history = new.history;
    }))
    × HasOpening opening
Holds old (Enter m) (Refused fault) new = (new ≡ old) × StaysOut old m fault
-- A look at the view, which is no event: nothing is changed. What it saw of the history is forgotten again.
Holds old (Look by_uid set) (Looked view) new =
    (new ≡ old) × In old (λ here. (seen : List Event) × Held old.history seen says_nothing (λ found left. (left ≡ found) × IsKept found
    × HasCursor found here.handle view))
Holds old (Look by_uid set) (Refused fault) new =
    (new ≡ old) × ((old.entered ≡ None) × (fault ≡ Stranger) ⊎ In old
    (λ here. UnderLock (λ found left. (left ≡ found) × LooksNot by_uid set fault found here.handle)))
Holds old (Read uid mark) (Found row) new =
    (new ≡ seeing old new.history)
    × In old (λ here. Held old.history new.history (says (steps.Read uid mark)) (λ found left. Reads found here.handle uid mark row left
    × HasItsText new.history found.number row))
    × HasRow row
Holds old (Read uid mark) (Refused fault) new =
    (new ≡ old) × TurnsAway old (λ found handle. IsTooMany found (seen_logged mark (rows found) uid))
    (λ found handle. IsSome (message_with uid found.messages)) fault
-- nor is a count
Holds old (Count m) (Counted status) new =
    (new ≡ seeing old new.history) × (m < old.mailboxes) × Held old.history new.history says_nothing
    (λ found left. DoesCountAt m found (Ok status) left) × HasStatus status
Holds old (Count m) (Refused fault) new =
    (new ≡ old) × ((old.mailboxes ≤ m) × (fault ≡ Stranger) ⊎ (m < old.mailboxes) × UnderLock (λ found left. DoesCountAt m found (Err fault) left))
Holds old (Alter uid op) (Altered flags) new =
    (new ≡ seeing old new.history) × In old (λ here. Held old.history new.history (says (steps.Alter uid op))
    (λ found left. Alters found here.handle uid op flags left))
Holds old (Alter uid op) (Refused fault) new = (new ≡ old) × TurnsAway old (λ found handle. IsTooMany found (flags_logged (rows found) uid op))
    (λ found handle. ⊥) fault
Holds old (Expunge uids) (Expunged view changes gone) new =
    In old (λ here. (next : CursorHandle)
    × Held old.history new.history (says (steps.Expunge uids))
    (λ found left. Expunges found here.handle uids view changes gone left next × ShowsOf found here.handle view changes (drop here.handle.at))
    × (new ≡ entered_at old here next new.history))
Holds old (Expunge uids) (Refused fault) new =
    (new ≡ old) × TurnsAway old (λ found handle. IsTooMany found (removals (in_set uids) (rows found)))
    (λ found handle. handle.at < total found.window) fault
Holds old (Feed limit) (Fed view changes) new =
    In old (λ here. (next : CursorHandle)
    × Held old.history new.history says_nothing
    (λ found left. Feeds found here.handle limit view changes left next
    × ShowsOf found here.handle view changes (λ log. next_of log here.handle.at (length changes)))
    × (new ≡ entered_at old here next new.history))
Holds old (Feed limit) (Refused fault) new = (new ≡ old) × TurnsAway old (λ found handle. ⊥)
    (λ found handle. 0 < min limit (total found.window - handle.at)) fault
Holds old (Leave remove) (Left gone) new =
    In old (λ here. Held old.history new.history (says (steps.Leave remove)) (λ found left. Leaves found here.handle remove gone left))
    × (new ≡ outside old new.history)
Holds old (Leave remove) (Refused fault) new =
    (new ≡ old)
    × ((old.entered ≡ None) × (fault ≡ Stranger)
    ⊎ In old (λ here. UnderLock (λ found left. IsKept found × (left ≡ found) × LeavesNot fault found here.handle (removals_if remove (rows found)))))
Holds old (Discard m uids) Discarded new =
    (new ≡ seeing old new.history) × (m < old.mailboxes) × Held old.history new.history (says (steps.Discard uids))
    (λ found left. DoesDiscardAt m uids found (Ok tt) left)
Holds old (Discard m uids) (Refused fault) new =
    (new ≡ old) × ((old.mailboxes ≤ m) × (fault ≡ Stranger) ⊎ (m < old.mailboxes)
    × UnderLock (λ found left. DoesDiscardAt m uids found (Err fault) left))
Holds old call answer new = ⊥

-- how many changes the session was shown since it entered
abbrev pub shown_in : Option Entry → ℕ
shown_in None = 0
shown_in (Some here) = here.handle.at - here.start
