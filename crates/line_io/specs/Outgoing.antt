-- What is known of an outlet that is a buffer, or a vector where that was taken out of its place.
use Rattle.std.specs.Prelude.{ℕ, ◌^◌, ◌≤◌, List, Option, Some, None, IfSome, ⊤}
use Rattle.std.proofs.Math.Nat.{le_refl}
use Rattle.std.specs.Prelude.{◌≡◌, false, [], Result, is_err, OnOk, OnErr}
use Rattle.line_io.specs.Outlet.{Buffer, Lot, SentAll, SentFirst}
use Rattle.line_io.specs.declared.buffer.FlushFault.{FlushFault}

-- The buffer, where it is in its place; and what the vector has that stands there meanwhile, and room for.
pub record Outgoing : Type 0 where
  pub buffer : Option Buffer
  pub kept : List ℕ
  pub spare : ℕ

-- The buffer is in its place, its sink hasn't failed, and all that was said was sent.
abbrev pub IsReady : Outgoing → Type 0
IsReady o = (b : Buffer) × (o.buffer ≡ Some b) × (b.failed ≡ false) × (b.pending ≡ [])

-- A buffer was flushed: nothing was said by it, and nothing is pending. After Ok all that was said was sent, after an error its first bytes were, and
-- not all.
pub record Flushed (before : Buffer) (result : Result (Unit {0}) FlushFault) (after : Buffer) : Type 0 where
  pub same : after ≡ record before { taken = after.taken; pending = []; failed = after.failed }
  pub all : OnOk result (SentAll after)
  pub first : OnErr result (SentFirst after)
  pub failed : after.failed ≡ is_err result

abbrev pub said_of : Option Buffer → List ℕ → List ℕ
said_of None kept = kept
said_of (Some b) kept = b.said

abbrev pub lot_of : Option Buffer → Lot
lot_of None = record { start = None; memory = None }
lot_of (Some b) = record { start = b.start; memory = Some b.memory }

-- There is always room in a buffer, as what doesn't fit is sent.
abbrev pub room_of : Option Buffer → ℕ → ℕ
room_of None room = room
room_of (Some b) room = 2 ^ 64

abbrev pub lends_of : Option Buffer → Type 0 → Type 0
lends_of None lent = lent
lends_of (Some b) lent = ⊤

-- where its memory never grows there is room for all
pub never_full_of : (buffer : Option Buffer) (room : ℕ) → IfSome (lot_of buffer).memory (λ (n : ℕ). 2 ^ 64 ≤ room_of buffer room)
never_full_of None room = tt
never_full_of (Some b) room = le_refl (2 ^ 64)
