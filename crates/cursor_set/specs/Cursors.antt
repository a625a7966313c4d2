-- The cursors of a mailbox's clients.
use Rattle.std.specs.Prelude.{◌≡◌, ◌≢◌, ℕ, ◌+◌, ◌≤◌, ◌==◌, ◌&&◌, List, Option, Some, None, All, Contains, take, length, option_map, slice_index_or, if◌then◌else◌}
use Rattle.std.specs.List.{filter_map}
use Rattle.change_ring.specs.declared.change.Change.{Change}
use Rattle.change_ring.specs.Log.{replay, Window, changes_from}

-- an open cursor: the serial it was opened under, the number of the next change to show, and the UIDs that its client counts
pub record Open : Type 0 where
  pub serial : ℕ
  pub at : ℕ
  pub view : List ℕ

-- the cursors of the mailbox of this number, each in its slot, and the serial of the next one
pub record CursorSet : Type 0 where
  pub number : ℕ
  pub next : ℕ
  pub slots : List (Option Open)

-- what a client holds of its cursor
pub record CursorHandle : Type 0 where
  pub number : ℕ
  pub slot : ℕ
  pub serial : ℕ
  pub at : ℕ

-- the cursor in a slot
abbrev pub in_slot : CursorSet → ℕ → Option Open
in_slot s slot = slice_index_or s.slots slot None

-- the cursor, if it is the handle's
abbrev pub if_of : CursorHandle → Option Open → Option Open
if_of handle None = None
if_of handle (Some o) = if (o.serial == handle.serial) && (o.at == handle.at) then Some o else None

-- the cursor of a handle; a stranger has none
abbrev pub held : CursorSet → CursorHandle → Option Open
held s handle = if s.number == handle.number then if_of handle (in_slot s handle.slot) else None

-- one slot has this now, and no other slot changed
pub record Updates (old new : CursorSet) (slot : ℕ) (cursor : Option Open) : Type 0 where
  pub changed : in_slot new slot ≡ cursor
  pub others : (other : ℕ) → other ≢ slot → in_slot new other ≡ in_slot old other
  pub number : new.number ≡ old.number

-- the next n changes of a cursor
abbrev pub next_changes : Window → ℕ → ℕ → List Change
next_changes w at n = take n (changes_from at w)

-- the cursor after these changes were shown
abbrev pub after_showing : List Change → Open → Open
after_showing changes o = record { serial = o.serial; at = o.at + length changes; view = replay o.view changes }

-- the numbers that the open cursors stand at
abbrev pub open_numbers : CursorSet → List ℕ
open_numbers s = filter_map (option_map (λ (o : Open). o.at)) s.slots

-- n is the least of these numbers that isn't below base
pub record IsLeastFrom (base : ℕ) (numbers : List ℕ) (n : ℕ) : Type 0 where
  pub from : base ≤ n
  pub among : Contains numbers n
  pub least : All (λ other. base ≤ other → n ≤ other) numbers
