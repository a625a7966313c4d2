use Rattle.std.proofs.Common.{◌≡◌, length}
use Rattle.std.specs.Io.KnownBytes.{Keeps}
use Rattle.lane_work.proofs.reading.read_piece.Given as goal

abbrev pub invariant-loop : goal.invariant-loop
invariant-loop g l = (length l.buffer.items ≡ length l.fn.buffer.items) × Keeps (g.I.Read.remaining l.fn.input) (g.I.Read.remaining l.input)
