-- A mailbox's log of changes, and what it says: the rows, the UIDs that were added, and a client's view; what each kind of event logs; and
-- the last changes of a log.
use Rattle.std.specs.Prelude.{ℕ, ◌==◌, false, List, [], ◌∷◌, ◌++◌, take, Contains, if◌then◌else◌, ◌&&◌, ◌||◌, not, Bool, true, map, filter, ◌≡◌, suc, ◌+◌, ◌-◌, ◌*◌, ◌≤◌, ◌⊎◌, length, drop, min, Option, Some, None}
use Rattle.std.specs.List.Sorted.{IsStrictlyIncreasing}
use Rattle.change_ring.specs.declared.change.Flags.{Flags}
use Rattle.change_ring.specs.declared.change.Change.{Change}
use Rattle.change_ring.specs.declared.change.Change.TheVariants.{Add, Gone, Flags as SetFlags}
use Rattle.change_ring.specs.declared.flag_op.FlagOp.{FlagOp}
use Rattle.change_ring.specs.declared.flag_op.FlagOp.TheVariants.{Set, Insert, Remove}

-- a message as a client sees it
pub record Row : Type 0 where
  pub uid : ℕ
  pub flags : Flags

-- no flag is set
abbrev pub no_flags : Flags
no_flags = record { answered = false; flagged = false; deleted = false; seen = false; draft = false }

-- the rows without the first of this UID
abbrev pub without_row : ℕ → List Row → List Row
without_row uid [] = []
without_row uid (row ∷ rows) = if row.uid == uid then rows else row ∷ without_row uid rows

-- the rows, the first of this UID with these flags
abbrev pub with_flags : ℕ → Flags → List Row → List Row
with_flags uid flags [] = []
with_flags uid flags (row ∷ rows) =
    if row.uid == uid then (record { uid = row.uid; flags = flags }) ∷ rows else row ∷ with_flags uid flags rows

-- the rows after one change
abbrev pub row_change : List Row → Change → List Row
row_change rows (Add uid) = rows ++ record { uid = uid; flags = no_flags } ∷ []
row_change rows (Gone uid) = without_row uid rows
row_change rows (SetFlags uid flags) = with_flags uid flags rows

-- the rows after changes
abbrev pub rows_after : List Row → List Change → List Row
rows_after rows [] = rows
rows_after rows (c ∷ cs) = rows_after (row_change rows c) cs

-- the rows of a log
abbrev pub rows_of : List Change → List Row
rows_of log = rows_after [] log

-- the UIDs without the first of this one
abbrev pub without : ℕ → List ℕ → List ℕ
without uid [] = []
without uid (u ∷ uids) = if u == uid then uids else u ∷ without uid uids

-- the UIDs that a client counts, after one change
abbrev pub shown : List ℕ → Change → List ℕ
shown view (Add uid) = view ++ uid ∷ []
shown view (Gone uid) = without uid view
shown view (SetFlags uid flags) = view

-- the same after changes
abbrev pub replay : List ℕ → List Change → List ℕ
replay view [] = view
replay view (c ∷ cs) = replay (shown view c) cs

-- what a client sees that was shown the first n changes
abbrev pub view_at : List Change → ℕ → List ℕ
view_at log n = replay [] (take n log)

-- the UIDs that were added, whether gone or not
abbrev pub added : List Change → List ℕ
added [] = []
added (Add uid ∷ cs) = uid ∷ added cs
added (Gone uid ∷ cs) = added cs
added (SetFlags uid flags ∷ cs) = added cs

-- the change speaks of a message that is there
abbrev pub Names : List ℕ → Change → Type 0
Names view (Add uid) = Unit {0}
Names view (Gone uid) = Contains view uid
Names view (SetFlags uid flags) = Contains view uid

-- so does each change, where the ones before it left it
abbrev pub FitsView : List ℕ → List Change → Type 0
FitsView view [] = Unit {0}
FitsView view (c ∷ cs) = Names view c × FitsView (shown view c) cs

-- UIDs rise, and no change speaks of a message that isn't there
pub record IsLegalLog (log : List Change) : Type 0 where
  pub rising : IsStrictlyIncreasing (added log)
  pub there : FitsView [] log

-- ---- what each kind of event logs, by the rows that the log leaves

-- the flags after an operation
abbrev pub flags_after : FlagOp → Flags → Flags
flags_after (Set g) f = g
flags_after (Insert g) f = record {
  answered = f.answered || g.answered;
  flagged = f.flagged || g.flagged;
  deleted = f.deleted || g.deleted;
  seen = f.seen || g.seen;
  draft = f.draft || g.draft;
}
flags_after (Remove g) f = record {
  answered = f.answered && not g.answered;
  flagged = f.flagged && not g.flagged;
  deleted = f.deleted && not g.deleted;
  seen = f.seen && not g.seen;
  draft = f.draft && not g.draft;
}

-- the two differ
abbrev pub differ : Bool → Bool → Bool
differ true b = not b
differ false b = b

-- some flag is set in one of them and not in the other
abbrev pub flags_differ : Flags → Flags → Bool
flags_differ f g =
    differ f.answered g.answered || (differ f.flagged g.flagged || (differ f.deleted g.deleted || (differ f.seen g.seen || differ f.draft g.draft)))

-- the new flags of a message, if they are others
abbrev pub new_flags : ℕ → Flags → Flags → List Change
new_flags uid old new = if flags_differ old new then SetFlags uid new ∷ [] else []

-- what a message's arrival logs: that it is there, and its flags where it has any
abbrev pub arrival : ℕ → Flags → List Change
arrival uid flags = Add uid ∷ new_flags uid no_flags flags

-- what storing flags logs: one change, where the message is there and its flags become others
abbrev pub flags_logged : List Row → ℕ → FlagOp → List Change
flags_logged [] uid op = []
flags_logged (row ∷ rows) uid op = if row.uid == uid then new_flags uid row.flags (flags_after op row.flags) else flags_logged rows uid op

-- what reading a message logs: \Seen, where it is to be set and was not
abbrev pub seen_logged : Bool → List Row → ℕ → List Change
seen_logged true rows uid = flags_logged rows uid (Insert (record no_flags { seen = true }))
seen_logged false rows uid = []

-- what removing messages logs: a Gone for each row that is marked as deleted and passes the test, in the order of the rows
abbrev pub removals : (ℕ → Bool) → List Row → List Change
removals test rows = map (λ (r : Row). Gone r.uid) (filter (λ (r : Row). r.flags.deleted && test r.uid) rows)

-- what discarding messages logs: a Gone for each row that passes the test, whatever its flags, in the order of the rows
abbrev pub discards : (ℕ → Bool) → List Row → List Change
discards test rows = map (λ (r : Row). Gone r.uid) (filter (λ (r : Row). test r.uid) rows)

-- what leaving a mailbox logs: all removals, if they are wanted
abbrev pub removals_if : Bool → List Row → List Change
removals_if true rows = removals (λ uid. true) rows
removals_if false rows = []

-- ---- the last changes of a log, by number

-- the changes from number base on, and how many fit: now, and at most
pub record Window : Type 0 where
  pub base : ℕ
  pub changes : List Change
  pub capacity : ℕ
  pub max : ℕ

-- the number of the next change
abbrev pub total : Window → ℕ
total w = w.base + length w.changes

-- what the window has from this number on
abbrev pub changes_from : ℕ → Window → List Change
changes_from from w = drop (from - w.base) w.changes

-- the window is the log without its first `base` changes
pub record IsWindowOf (w : Window) (log : List Change) : Type 0 where
  pub long : length log ≡ total w
  pub rest : drop w.base log ≡ w.changes

-- the capacity after a push that handed this back: a full ring that handed nothing back has doubled it, up to the most
abbrev pub capacity_after : Window → Option Change → ℕ
capacity_after w (Some lost) = w.capacity
capacity_after w None = if length w.changes == w.capacity then min (2 * w.capacity) w.max else w.capacity

-- In a ring that holds so many changes.
module _ (room : ℕ) where
  -- From a window of `total` changes less its first `base`, more changes may leave this base: each raises it by one or leaves it,
  -- and raises it only where the window already held as many as `room`.
  abbrev pub BaseAfter : ℕ → ℕ → List Change → ℕ → Type 0
  BaseAfter total base [] new = new ≡ base
  BaseAfter total base (c ∷ cs) new = BaseAfter (suc total) base cs new ⊎ ((room ≤ total - base) × BaseAfter (suc total) (suc base) cs new)
