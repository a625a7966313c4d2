-- What bodies and proofs say besides: one client's visit over a stream: what its callers may know of it, what each call does, and what is sent.
use Rattle.std.specs.Prelude.{◌≡◌, ℕ, ◌<◌, Bool, true, false, List, [], length, take, Option, Some, None}
use Rattle.std.specs.Option.{option_map_or}
use Rattle.std.specs.Io.KnownBytes.{Appends}
use Rattle.line_io.specs.Outlet.{Buffer}
use Rattle.line_io.specs.Outgoing.{Outgoing}

-- ---- what a visit's outlet has

-- the bytes that its sink took, where that tells them
abbrev pub taken_of : Outgoing → Option (List ℕ)
taken_of out = option_map_or (λ (b : Buffer). b.taken) out.buffer None

-- its sink has failed
abbrev pub failed_of : Outgoing → Bool
failed_of out = option_map_or (λ (b : Buffer). b.failed) out.buffer true

-- Between two calls the buffer is in its place, and nothing is pending. A sink that has failed closed the visit.
abbrev pub HasSent : Bool → Outgoing → Type 0
HasSent closed out = (b : Buffer) × (out.buffer ≡ Some b) × (b.pending ≡ []) × (closed ≡ false → b.failed ≡ false)

-- the first of these bytes were taken, and not all
abbrev pub TookFirst : Option (List ℕ) → List ℕ → Option (List ℕ) → Type 0
TookFirst before said after = (sent : ℕ) × (sent < length said) × Appends before after (take sent said)

-- The buffer is in its place, and nothing was said yet: its sink, which hasn't failed, has taken so much.
abbrev pub IsFresh : Option (List ℕ) → Outgoing → Type 0
IsFresh taken out = (b : Buffer) × (out.buffer ≡ Some b) × (b.failed ≡ false) × (b.pending ≡ []) × (b.said ≡ []) × (b.start ≡ taken)
    × (b.taken ≡ taken)
