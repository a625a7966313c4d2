-- A mailbox as contracts see it: all that it has now, and nothing of what it dropped. And what it says of its log, which it doesn't keep.
use Rattle.std.specs.Prelude.{◌≡◌, ℕ, ◌+◌, ◌==◌, nat_le, nat_lt, ◌||◌, ◌&&◌, not, Bool, List, [], ◌∷◌, length, map, filter, Option, Some, None, if◌then◌else◌, ◌≤◌, ◌++◌, take, drop}
use Rattle.change_ring.specs.declared.change.Flags.{Flags}
use Rattle.change_ring.specs.declared.flag_op.FlagOp.{FlagOp}
use Rattle.change_ring.specs.Log.{Row, arrival, flags_after, Window, total, rows_of, view_at, replay, added, FitsView, IsWindowOf, changes_from}
use Rattle.cursor_set.specs.Cursors.{CursorSet, Open, in_slot}
use Rattle.delivery_token.specs.Text.{Text}
use Rattle.delivery_token.specs.declared.CopyKey.{CopyKey}
use Rattle.mailbox.specs.declared.history.History.{History}
use Rattle.std.specs.List.{range_with_len}
use Rattle.std.specs.List.Sorted.{IsStrictlyIncreasing}
use Rattle.change_ring.specs.declared.change.Change.{Change}

-- a message that is kept
pub record Message : Type 0 where
  pub uid : ℕ
  pub flags : Flags
  pub text : Text

-- its number and UIDVALIDITY, the first UID, how many messages may be there, the messages, the last changes, the copies that were
-- accepted, each with its UID, whether these are kept, and the clients' cursors
pub record Mailbox : Type 0 where
  pub number : ℕ
  pub uidvalidity : ℕ
  pub first_uid : ℕ
  pub limit : ℕ
  pub messages : List Message
  pub window : Window
  pub history : History
  pub accepted : List (CopyKey × ℕ)
  pub cursors : CursorSet

-- the UID of the next message
abbrev pub next_uid : Mailbox → ℕ
next_uid m = m.first_uid + length m.accepted

-- no UID is left, or not as many numbers of changes as the arrival of a message with these flags takes
abbrev pub is_spent : Flags → Mailbox → Bool
is_spent flags m = nat_le 4294967295 (next_uid m) || nat_lt 4611686018427387904 (total m.window + length (arrival (next_uid m) flags))

-- as many messages are there as may be
abbrev pub is_full : Mailbox → Bool
is_full m = nat_le m.limit (length m.messages)

-- what no call changes
pub record SameMailbox (old new : Mailbox) : Type 0 where
  pub number : new.number ≡ old.number
  pub uidvalidity : new.uidvalidity ≡ old.uidvalidity
  pub first_uid : new.first_uid ≡ old.first_uid
  pub limit : new.limit ≡ old.limit
  pub history : new.history ≡ old.history

-- a message as a client sees it
abbrev pub row_of : Message → Row
row_of m = record { uid = m.uid; flags = m.flags }

-- the messages as a client sees them
abbrev pub rows : Mailbox → List Row
rows m = map row_of m.messages

-- the messages' UIDs
abbrev pub uids_of : List Message → List ℕ
uids_of messages = map (λ (m : Message). m.uid) messages

-- UID and text of each message
abbrev pub texts_of : List Message → List (ℕ × Text)
texts_of messages = map (λ (m : Message). (m.uid, m.text)) messages

-- the UIDs that were given out
abbrev pub accepted_uids : Mailbox → List ℕ
accepted_uids m = map (λ (a : CopyKey × ℕ). a.1) m.accepted

-- the message of a UID
abbrev pub message_with : ℕ → List Message → Option Message
message_with uid [] = None
message_with uid (m ∷ ms) = if m.uid == uid then Some m else message_with uid ms

-- the messages after an operation on the flags of the one that has this UID
abbrev pub flagged : ℕ → FlagOp → List Message → List Message
flagged uid op messages = map (λ (m : Message). if m.uid == uid then record m { flags = flags_after op m.flags } else m) messages

-- the messages that are left where those go that pass the test, whatever their flags
abbrev pub without : (ℕ → Bool) → List Message → List Message
without test messages = filter (λ (m : Message). not (test m.uid)) messages

-- the messages that are left where those go that are marked as deleted and pass the test
abbrev pub remaining : (ℕ → Bool) → List Message → List Message
remaining test messages = filter (λ (m : Message). not (m.flags.deleted && test m.uid)) messages

-- ---- what it says of its log

-- A cursor's client was shown the first changes of the log, up to the cursor's number, and counts what they leave: also one that fell behind
-- the window, since the log only grows.
pub record IsShown (log : List Change) (o : Open) : Type 0 where
  pub within : o.at ≤ length log
  pub view : o.view ≡ view_at log o.at

-- the mailbox is as this log leaves it: its messages, its window, the UIDs that it gave out and what its clients count are the log's
pub record Stands (m : Mailbox) (log : List Change) : Type 0 where
  pub there : FitsView [] log
  pub messages : map row_of m.messages ≡ rows_of log
  pub window : IsWindowOf m.window log
  pub accepted : accepted_uids m ≡ added log
  pub numbered : accepted_uids m ≡ range_with_len m.first_uid (length m.accepted)
  pub cursors : (slot : ℕ) (o : Open) → in_slot m.cursors slot ≡ Some o → IsShown log o

-- the next n changes of the log from a number on
abbrev pub next_of : List Change → ℕ → ℕ → List Change
next_of log at n = take n (drop at log)

-- What every mailbox keeps, whatever was called, and so each lock around one.
pub record IsKept (m : Mailbox) : Type 0 where
  -- where the window still has what a client is to be shown, its view with these changes replayed is the messages' UIDs
  pub views : (slot : ℕ) (o : Open) → in_slot m.cursors slot ≡ Some o → m.window.base ≤ o.at
      → replay o.view (changes_from o.at m.window) ≡ uids_of m.messages
  -- no cursor is past the end of the log
  pub within : (slot : ℕ) (o : Open) → in_slot m.cursors slot ≡ Some o → o.at ≤ total m.window
  pub rising : IsStrictlyIncreasing (uids_of m.messages)
  -- the copies that were accepted have the UIDs from the first one on, with no gap
  pub numbered : accepted_uids m ≡ range_with_len m.first_uid (length m.accepted)
  -- the window's added messages are the last that were accepted
  pub last : (earlier : List ℕ) × (accepted_uids m ≡ earlier ++ added m.window.changes)
  -- the window has no more changes than fit, and no more fit than its most
  pub held : length m.window.changes ≤ m.window.capacity
  pub most : m.window.capacity ≤ m.window.max
  -- its log has no more changes than can be numbered
  pub few : total m.window ≤ 4611686018427387904
  -- its clients' handles carry its number, so that a handle of another mailbox is a stranger
  pub handles : m.cursors.number ≡ m.number
