-- The clients of the mailboxes, each with the cursor that its mailbox keeps for it.
use Rattle.std.specs.Prelude.{◌≡◌, ◌≢◌, ℕ, ◌<◌, List, [], length, map, slice_index_or, Option, Some, None, IsSome}
use Rattle.cursor_set.specs.Cursors.{CursorSet, Open, held}
use Rattle.mailbox.specs.Mailbox.{Mailbox}
use Rattle.delivery_core.specs.declared.client.Client.{Client}

-- the cursors of each mailbox
abbrev pub cursors_of : List Mailbox → List CursorSet
cursors_of boxes = map (λ (b : Mailbox). b.cursors) boxes

-- the cursors of the mailbox of this number; none where it is not there
abbrev pub cursors_at : List CursorSet → ℕ → CursorSet
cursors_at all mailbox = slice_index_or all mailbox (record { number = 0; next = 0; slots = [] })

-- the client at a place
abbrev pub client_at : List (Option Client) → ℕ → Option Client
client_at clients place = slice_index_or clients place None

-- the client's cursor
abbrev pub cursor_of : List CursorSet → Client → Option Open
cursor_of all c = held (cursors_at all c.mailbox) c.handle

-- Each client's cursor is its own, and its mailbox keeps it.
pub record AreAttached (all : List CursorSet) (clients : List (Option Client)) : Type 0 where
  pub there : (n : ℕ) (c : Client) → client_at clients n ≡ Some c → c.mailbox < length all
  pub known : (n : ℕ) (c : Client) → client_at clients n ≡ Some c → IsSome (cursor_of all c)
  -- no two have one slot of one mailbox
  pub apart : (m n : ℕ) (c d : Client) → client_at clients m ≡ Some c → client_at clients n ≡ Some d → m ≢ n → c.mailbox ≡ d.mailbox
      → c.handle.slot ≢ d.handle.slot
