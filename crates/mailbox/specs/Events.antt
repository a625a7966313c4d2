-- What a call of a mailbox logs, shows and refuses.
use Rattle.std.specs.Prelude.{◌≡◌, ℕ, ◌+◌, ◌*◌, ◌<◌, ◌≤◌, ◌==◌, min, Bool, true, false, List, [], ◌∷◌, ◌++◌, length, Option, Some, None, IsSome, Contains}
use Rattle.std.specs.List.{list_any}
use Rattle.change_ring.specs.declared.change.Change.{Change}
use Rattle.change_ring.specs.Log.{no_flags, Window, total}
use Rattle.change_ring.specs.declared.flag_op.FlagOp.{FlagOp}
use Rattle.change_ring.specs.declared.flag_op.FlagOp.TheVariants.{Insert}
use Rattle.cursor_set.specs.Cursors.{CursorSet, CursorHandle, held, open_numbers}
use Rattle.mailbox.specs.Mailbox.{Mailbox, Message, flagged, Stands}

-- the call logged these changes, on every log for which the mailbox stood
abbrev pub Logs : Mailbox → Mailbox → List Change → Type 0
Logs old new changes = (log : List Change) → Stands old log → Stands new (log ++ changes)

-- the call logged nothing
abbrev pub KeepsLog : Mailbox → Mailbox → Type 0
KeepsLog old new = (log : List Change) → Stands old log → Stands new log

-- One change went into the window. There was room for it; or there was none, some client is still to be shown the oldest change, and the room was
-- doubled, up to the most; or there was none, and the oldest change was dropped.
pub data Takes (cursors : CursorSet) (old : Window) (change : Change) (new : Window) : Type 0 where
  has_room : length old.changes < old.capacity → new ≡ record old { changes = old.changes ++ change ∷ [] } → Takes cursors old change new
  grows : length old.changes ≡ old.capacity → old.capacity < min (2 * old.capacity) old.max → Contains (open_numbers cursors) old.base
      → new ≡ record old { changes = old.changes ++ change ∷ []; capacity = min (2 * old.capacity) old.max } → Takes cursors old change new
  drops : length old.changes ≡ old.capacity → (oldest : Change) (others : List Change) → old.changes ≡ oldest ∷ others
      → new ≡ record old { base = old.base + 1; changes = others ++ change ∷ [] } → Takes cursors old change new

-- These changes went into the window, one after another. So its base stays only where there was room or it grew for a client.
abbrev pub Moves : CursorSet → Window → Window → List Change → Type 0
Moves cursors old new [] = new ≡ old
Moves cursors old new (c ∷ cs) = (between : Window) × Takes cursors old c between × Moves cursors between new cs

-- so many changes more can't be numbered
abbrev pub IsTooMany : Mailbox → List Change → Type 0
IsTooMany m changes = 4611686018427387904 < total m.window + length changes

-- no cursor here is the handle's
abbrev pub IsStranger : Mailbox → CursorHandle → Type 0
IsStranger m handle = held m.cursors handle ≡ None

-- the handle's cursor is here, and the change that it is to be shown next was overwritten
abbrev pub IsLapped : Mailbox → CursorHandle → Type 0
IsLapped m handle = IsSome (held m.cursors handle) × (handle.at < m.window.base)

-- the handle's cursor is here, and the window has all that it is to be shown
abbrev pub IsCurrent : Mailbox → CursorHandle → Type 0
IsCurrent m handle = IsSome (held m.cursors handle) × (m.window.base ≤ handle.at)

-- any UID, or those of a set
abbrev pub in_set : Option (List ℕ) → ℕ → Bool
in_set None uid = true
in_set (Some uids) uid = list_any (λ u. u == uid) uids

-- setting \Seen
abbrev pub mark : FlagOp
mark = Insert (record no_flags { seen = true })

-- the messages after one was read: it has \Seen, where that was asked for
abbrev pub seen_after : Bool → ℕ → List Message → List Message
seen_after true uid messages = flagged uid mark messages
seen_after false uid messages = messages

-- something was logged
abbrev pub was_logged : List Change → Bool
was_logged [] = false
was_logged (c ∷ cs) = true
