-- What a call does to the mailbox that it finds, as under a lock, and to a client's handle: what a client does is one event of the mailbox, and so is
-- the delivery of a copy.
use Rattle.std.specs.Prelude.{◌≡◌, ℕ, ◌+◌, ◌-◌, ◌^◌, ◌<◌, ◌≤◌, Bool, true, false, List, [], ◌∷◌, ◌++◌, length, drop, min, Option, Some, None, IsSome, Result, Ok, Err, option_map, if◌then◌else◌}
use Rattle.change_ring.specs.declared.change.Change.{Change}
use Rattle.change_ring.specs.declared.change.Flags.{Flags}
use Rattle.change_ring.specs.declared.flag_op.FlagOp.{FlagOp}
use Rattle.change_ring.specs.Log.{replay, view_at, arrival, discards, flags_logged, removals, removals_if, seen_logged, changes_from, total}
use Rattle.cursor_set.specs.Cursors.{CursorHandle, Updates, held, in_slot, next_changes}
use Rattle.cursor_set.specs.Lines.{lines}
use Rattle.delivery_token.specs.declared.CopyKey.{CopyKey}
use Rattle.delivery_token.specs.declared.Job.{Job}
use Rattle.delivery_token.specs.declared.Refusal.{Refusal}
use Rattle.delivery_token.specs.declared.Refusal.TheVariants as copy
use Rattle.mailbox.specs.declared.mailbox.Receipt.{Receipt}
use Rattle.mailbox.specs.Counts.{bytes_in_all, deleted_count, unseen_count}
use Rattle.mailbox.specs.declared.mailbox.Status.{Status}
use Rattle.mailbox.specs.Events.{IsCurrent, IsLapped, IsStranger, IsTooMany, Logs, Moves, in_set, seen_after, was_logged}
use Rattle.mailbox.specs.Mailbox.{Mailbox, Message, SameMailbox, flagged, is_full, is_spent, message_with, next_uid, remaining, rows, uids_of, without, IsKept, Stands, next_of}
use Rattle.mailbox.specs.declared.clients.MailFault.{MailFault}
use Rattle.mailbox.specs.declared.clients.MailFault.TheVariants.{Stranger, Lapped, Spent, NoMemory}
use Rattle.mailbox.specs.declared.clients.Opening.{Opening}
use Rattle.mailbox.specs.declared.clients.Row.{Row}

-- A lock was taken: this mailbox was found, this was done to it, it was left like that, and the lock was let go. Of what one hold leaves and the next
-- one finds nothing is said.
abbrev pub UnderLock : (Mailbox → Mailbox → Type 0) → Type 0
UnderLock P = (found : Mailbox) × (left : Mailbox) × P found left

-- The mailbox that was found and the one that was left: both keep what every mailbox keeps, and the log went on by these changes, on every
-- log for which the mailbox stood. No copy was delivered.
pub record IsEvent (found left : Mailbox) (changes : List Change) : Type 0 where
  pub found_kept : IsKept found
  pub left_kept : IsKept left
  pub logs : Logs found left changes
  pub same : SameMailbox found left
  pub accepted : left.accepted ≡ found.accepted

-- The same, where one copy was delivered: the log went on by its message's arrival, with these flags, and this copy alone was added to those that
-- were accepted, under the next UID.
pub record IsDelivery (found left : Mailbox) (key : CopyKey) (flags : Flags) : Type 0 where
  pub found_kept : IsKept found
  pub left_kept : IsKept left
  pub logs : Logs found left (arrival (next_uid found) flags)
  pub same : SameMailbox found left
  pub accepted : left.accepted ≡ found.accepted ++ (key, next_uid found) ∷ []

-- The handle is no stranger: its cursor stands in this mailbox at the handle's number, and counts this view. The log is at least as long as that
-- number.
pub record HasCursor (m : Mailbox) (handle : CursorHandle) (view : List ℕ) : Type 0 where
  pub cursor : held m.cursors handle ≡ Some (record { serial = handle.serial; at = handle.at; view = view })
  pub within : handle.at ≤ total m.window

-- The cursor in the handle's slot is this handle's now, and counts this view; no other slot changed.
abbrev pub SetsCursor : Mailbox → Mailbox → CursorHandle → List ℕ → Type 0
SetsCursor found left handle view = Updates found.cursors left.cursors handle.slot
    (Some (record { serial = handle.serial; at = handle.at; view = view }))

-- ---- what each event does

-- The handle was made, of the next serial and in a slot that was vacant, at the end of the log: its client counts the messages that are there.
pub record Enters (found : Mailbox) (opening : Opening) (left : Mailbox) (handle : CursorHandle) : Type 0 where
  pub event : IsEvent found left []
  pub serial_left : found.cursors.next < 2 ^ 64 - 1
  pub tells : opening ≡ record { count = length found.messages; uidnext = next_uid found; uidvalidity = found.uidvalidity }
  pub made : handle ≡ record { number = found.number; slot = handle.slot; serial = found.cursors.next; at = total found.window }
  pub vacant : in_slot found.cursors handle.slot ≡ None
  pub known : HasCursor left handle (uids_of found.messages)
  pub sets : SetsCursor found left handle (uids_of found.messages)
  pub serials : left.cursors.next ≡ found.cursors.next + 1
  pub rest : left ≡ record found { cursors = left.cursors }

module _ (found : Mailbox) (handle : CursorHandle) (limit : ℕ) (view : List ℕ) where
  -- The client was shown its next changes, at most so many, and the handle went on by as many.
  pub record Feeds (changes : List Change) (left : Mailbox) (next : CursorHandle) : Type 0 where
    pub event : IsEvent found left []
    pub known : HasCursor found handle view
    pub current : found.window.base ≤ handle.at
    pub count : length changes ≡ min limit (total found.window - handle.at)
    pub shown : changes ≡ next_changes found.window handle.at (length changes)
    pub goes_on : next ≡ record handle { at = handle.at + length changes }
    pub counts : HasCursor left next (replay view changes)
    pub sets : SetsCursor found left next (replay view changes)
    pub serials : left.cursors.next ≡ found.cursors.next
    pub rest : left ≡ record found { cursors = left.cursors }

module _ (found : Mailbox) (handle : CursorHandle) (uids : Option (List ℕ)) (view : List ℕ) where
  -- The client was shown all that was pending, and then the messages with \Deleted went, those of the set.
  pub record Expunges (changes : List Change) (gone : ℕ) (left : Mailbox) (next : CursorHandle) : Type 0 where
    pub event : IsEvent found left (removals (in_set uids) (rows found))
    pub known : HasCursor found handle view
    pub current : found.window.base ≤ handle.at
    pub room : IsTooMany found (removals (in_set uids) (rows found)) → ⊥
    pub shown : changes ≡ changes_from handle.at found.window
    pub goes_on : next ≡ record handle { at = total found.window }
    pub counts : HasCursor left next (replay view changes)
    pub sets : SetsCursor found left next (replay view changes)
    pub serials : left.cursors.next ≡ found.cursors.next
    pub window : Moves left.cursors found.window left.window (removals (in_set uids) (rows found))
    pub messages : left.messages ≡ remaining (in_set uids) found.messages
    pub rest : left ≡ record found { messages = left.messages; window = left.window; cursors = left.cursors }
    pub went : gone ≡ length (removals (in_set uids) (rows found))

-- What a call of the client with this handle does to the mailbox that it finds.
module _ (found : Mailbox) (handle : CursorHandle) where
  -- The message of a UID was read.
  pub record Reads (uid : ℕ) (mark_seen : Bool) (row : Option Row) (left : Mailbox) : Type 0 where
    pub event : IsEvent found left (seen_logged mark_seen (rows found) uid)
    pub known : (view : List ℕ) × HasCursor found handle view
    pub current : found.window.base ≤ handle.at
    pub room : IsTooMany found (seen_logged mark_seen (rows found) uid) → ⊥
    pub window : Moves found.cursors found.window left.window (seen_logged mark_seen (rows found) uid)
    pub messages : left.messages ≡ seen_after mark_seen uid found.messages
    pub rest : left ≡ record found { messages = left.messages; window = left.window }
    pub answers : row ≡ option_map (λ (m : Message). record {
      uid = m.uid;
      flags = m.flags;
      newly_seen = was_logged (seen_logged mark_seen (rows found) uid);
      text = m.text;
    }) (message_with uid left.messages)

  -- The flags of the message of a UID were changed.
  pub record Alters (uid : ℕ) (op : FlagOp) (flags : Option Flags) (left : Mailbox) : Type 0 where
    pub event : IsEvent found left (flags_logged (rows found) uid op)
    pub known : (view : List ℕ) × HasCursor found handle view
    pub current : found.window.base ≤ handle.at
    pub room : IsTooMany found (flags_logged (rows found) uid op) → ⊥
    pub window : Moves found.cursors found.window left.window (flags_logged (rows found) uid op)
    pub messages : left.messages ≡ flagged uid op found.messages
    pub rest : left ≡ record found { messages = left.messages; window = left.window }
    pub answers : flags ≡ option_map (λ (m : Message). m.flags) (message_with uid left.messages)

  -- The handle was closed, and where it was asked for the messages with \Deleted went. The client may have fallen behind the window.
  pub record Leaves (remove : Bool) (gone : ℕ) (left : Mailbox) : Type 0 where
    pub event : IsEvent found left (removals_if remove (rows found))
    pub known : (view : List ℕ) × HasCursor found handle view
    pub room : IsTooMany found (removals_if remove (rows found)) → ⊥
    pub closed : Updates found.cursors left.cursors handle.slot None
    pub serials : left.cursors.next ≡ found.cursors.next
    pub window : Moves left.cursors found.window left.window (removals_if remove (rows found))
    pub messages : left.messages ≡ (if remove then remaining (λ uid. true) found.messages else found.messages)
    pub rest : left ≡ record found { messages = left.messages; window = left.window; cursors = left.cursors }
    pub went : gone ≡ length (removals_if remove (rows found))

-- The copy was delivered: its message is the last one, with the copy's flags, and no cursor changed.
pub record Delivers (found : Mailbox) (job : Job) (receipt : Receipt) (left : Mailbox) : Type 0 where
  pub event : IsDelivery found left job.key job.flags
  pub uid_left : is_spent job.flags found ≡ false
  pub room_left : is_full found ≡ false
  pub window : Moves found.cursors found.window left.window (arrival (next_uid found) job.flags)
  pub messages : left.messages ≡ found.messages ++ record { uid = next_uid found; flags = job.flags; text = job.text } ∷ []
  pub cursors : left.cursors ≡ found.cursors
  pub answers : receipt ≡ record { mailbox = found.number; key = job.key; uid = next_uid found; position = length found.accepted }

-- ---- refusals

-- Why a client was refused: the first of these that holds. Where `spent`, the log has no room for what the call would log; and memory is wanted
-- only where `wants`.
abbrev pub Refuses : MailFault → Mailbox → CursorHandle → Type 0 → Type 0 → Type 0
Refuses Stranger m handle spent wants = IsStranger m handle
Refuses Lapped m handle spent wants = IsLapped m handle
Refuses Spent m handle spent wants = IsCurrent m handle × spent
Refuses NoMemory m handle spent wants = IsCurrent m handle × (spent → ⊥) × wants

module _ (found : Mailbox) (handle : CursorHandle) where
  -- The call was refused, and changed nothing.
  pub record IsRefused (spent wants : Type 0) (fault : MailFault) (left : Mailbox) : Type 0 where
    pub kept : IsKept found
    pub same : left ≡ found
    pub why : Refuses fault found handle spent wants

-- why no handle was made: no serial is left, or one is and memory was refused
abbrev pub EntersNot : MailFault → Mailbox → Type 0
EntersNot Stranger m = ⊥
EntersNot Lapped m = ⊥
EntersNot Spent m = 2 ^ 64 - 1 ≤ m.cursors.next
EntersNot NoMemory m = m.cursors.next < 2 ^ 64 - 1

-- why a client that would leave could not, of whom these changes would be logged: one that fell behind may, and it takes no memory
abbrev pub LeavesNot : MailFault → Mailbox → CursorHandle → List Change → Type 0
LeavesNot Stranger m handle changes = IsStranger m handle
LeavesNot Lapped m handle changes = ⊥
LeavesNot Spent m handle changes = IsSome (held m.cursors handle) × IsTooMany m changes
LeavesNot NoMemory m handle changes = ⊥

-- why a copy with these flags was not stored: the first of these that holds
abbrev pub DeliversNot : Refusal → Flags → Mailbox → Type 0
DeliversNot copy.Full flags m = ⊥
DeliversNot copy.Shut flags m = ⊥
DeliversNot copy.UidSpent flags m = is_spent flags m ≡ true
DeliversNot copy.MailboxFull flags m = (is_spent flags m ≡ false) × (is_full m ≡ true)
DeliversNot copy.NoMemory flags m = (is_spent flags m ≡ false) × (is_full m ≡ false)

-- ---- by the answer

abbrev pub DoesRead : Mailbox → CursorHandle → ℕ → Bool → Result (Option Row) MailFault → Mailbox → Type 0
DoesRead found handle uid mark_seen (Ok row) left = Reads found handle uid mark_seen row left
DoesRead found handle uid mark_seen (Err fault) left = IsRefused found handle (IsTooMany found (seen_logged mark_seen (rows found) uid))
    (IsSome (message_with uid found.messages)) fault left

abbrev pub DoesAlter : Mailbox → CursorHandle → ℕ → FlagOp → Result (Option Flags) MailFault → Mailbox → Type 0
DoesAlter found handle uid op (Ok flags) left = Alters found handle uid op flags left
DoesAlter found handle uid op (Err fault) left = IsRefused found handle (IsTooMany found (flags_logged (rows found) uid op)) ⊥ fault left

-- What was shown, and what was written of it: a line for each change as the client counts, which are the next changes of each log for which the
-- mailbox stood, by what that log says that the client counts.
pub record Shown (P : List ℕ → List Change → Type 0) (found : Mailbox) (handle : CursorHandle) (before after : List ℕ) (count : ℕ) : Type 0 where
  pub view : List ℕ
  pub changes : List Change
  pub does : P view changes
  pub counted : length changes ≡ count
  pub wrote : after ≡ before ++ lines view changes
  pub of_log : (log : List Change) → Stands found log → after ≡ before ++ lines (view_at log handle.at) (next_of log handle.at count)

-- the same, where all that was pending was shown, and the answer isn't how many
pub record Told (P : List ℕ → List Change → Type 0) (found : Mailbox) (handle : CursorHandle) (before after : List ℕ) : Type 0 where
  pub view : List ℕ
  pub changes : List Change
  pub does : P view changes
  pub wrote : after ≡ before ++ lines view changes
  pub of_log : (log : List Change) → Stands found log → after ≡ before ++ lines (view_at log handle.at) (drop handle.at log)

-- Nothing was shown: neither the handle nor what is written changed.
pub record NothingShown (P : Type 0) (handle next : CursorHandle) (before after : List ℕ) : Type 0 where
  pub refused : P
  pub still : next ≡ handle
  pub wrote : after ≡ before

-- It logs nothing, so the log always has room; and it wants memory only where there is something to show.
abbrev pub DoesFeed : Mailbox → CursorHandle → ℕ → List ℕ → List ℕ → Result ℕ MailFault → Mailbox → CursorHandle → Type 0
DoesFeed found handle limit before after (Ok n) left next = Shown
    (λ view changes. Feeds found handle limit view changes left next) found handle before after n
DoesFeed found handle limit before after (Err fault) left next =
    NothingShown (IsRefused found handle ⊥ (0 < min limit (total found.window - handle.at)) fault left) handle next before after

abbrev pub DoesExpunge : Mailbox → CursorHandle → Option (List ℕ) → List ℕ → List ℕ → Result ℕ MailFault → Mailbox → CursorHandle → Type 0
DoesExpunge found handle uids before after (Ok gone) left next =
    Told (λ view changes. Expunges found handle uids view changes gone left next) found handle before after
DoesExpunge found handle uids before after (Err fault) left next = NothingShown (IsRefused found handle
    (IsTooMany found (removals (in_set uids) (rows found))) (handle.at < total found.window) fault left) handle next before after

abbrev pub DoesEnter : Mailbox → Result (CursorHandle × Opening) MailFault → Mailbox → Type 0
DoesEnter found (Ok entered) left = Enters found entered.1 left entered.0
DoesEnter found (Err fault) left = IsKept found × (left ≡ found) × EntersNot fault found

-- A handle that may not leave is handed back.
abbrev pub DoesLeave : Mailbox → CursorHandle → Bool → Result ℕ (CursorHandle × MailFault) → Mailbox → Type 0
DoesLeave found handle remove (Ok gone) left = Leaves found handle remove gone left
DoesLeave found handle remove (Err back) left = (back.0 ≡ handle) × IsKept found × (left ≡ found)
    × LeavesNot back.1 found handle (removals_if remove (rows found))

abbrev pub DoesDeliver : Mailbox → Job → Result Receipt Refusal → Mailbox → Type 0
DoesDeliver found job (Ok receipt) left = Delivers found job receipt left
DoesDeliver found job (Err refusal) left = IsKept found × (left ≡ found) × DeliversNot refusal job.flags found

-- The messages of these UIDs were removed, whatever their flags, and that was logged.
pub record Discards (found : Mailbox) (uids : List ℕ) (left : Mailbox) : Type 0 where
  pub kept : IsKept found
  pub left_kept : IsKept left
  pub room : IsTooMany found (discards (in_set (Some uids)) (rows found)) → ⊥
  pub logs : Logs found left (discards (in_set (Some uids)) (rows found))
  pub window : Moves found.cursors found.window left.window (discards (in_set (Some uids)) (rows found))
  pub messages : left.messages ≡ without (in_set (Some uids)) found.messages
  pub same : left ≡ record found { messages = left.messages; window = left.window }

-- it is refused where the log has no room for that, and nowhere else
abbrev pub DoesDiscard : Mailbox → List ℕ → Result (Unit {0}) MailFault → Mailbox → Type 0
DoesDiscard found uids (Ok done) left = Discards found uids left
DoesDiscard found uids (Err Spent) left = IsKept found × (left ≡ found) × IsTooMany found (discards (in_set (Some uids)) (rows found))
DoesDiscard found uids (Err fault) left = ⊥

-- The view was looked at, or the handle is a stranger. It is no event, and takes no memory.
abbrev pub DoesLook : Mailbox → CursorHandle → Result (List ℕ) MailFault → Type 0
DoesLook found handle (Ok view) = IsKept found × HasCursor found handle view
DoesLook found handle (Err Stranger) = IsKept found × IsStranger found handle
DoesLook found handle (Err Lapped) = ⊥
DoesLook found handle (Err Spent) = ⊥
DoesLook found handle (Err NoMemory) = ⊥

-- The mailbox was counted (RFC 9051, 6.3.11). It is no event.
pub record Counts (found : Mailbox) (status : Status) : Type 0 where
  pub kept : IsKept found
  pub tells : status ≡ record {
    messages = length found.messages;
    uidnext = next_uid found;
    uidvalidity = found.uidvalidity;
    unseen = unseen_count found.messages;
    deleted = deleted_count found.messages;
    size = bytes_in_all found.messages;
  }
