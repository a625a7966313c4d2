use Rattle.std.proofs.Common.{◌≤◌, ◌<◌, length, max}
use Rattle.imap_stream.specs.inner.Attending.{HearsOn}
use Rattle.imap_stream.proofs.client_slot.ClientSlot.serve.Given as goal

abbrev pub invariant-loop : goal.invariant-loop
invariant-loop g l =
    g.C.Courier.ready l.courier
    × ((first : g.row.C.Denot) → g.C.Courier.kept first l.fn.courier → g.C.Courier.kept first l.courier)
    × HearsOn (g.I.Read.remaining l.fn.input) (g.I.Read.remaining l.input) l.fn.visit l.visit
    × (0 < length l.fn.buffer.items → 0 < length l.buffer.items)
    × (length l.buffer.items ≤ max (length l.fn.buffer.items) 4_096)
