use Rattle.std.proofs.Common.{◌≡◌, ◌++◌, take}
use Rattle.line_io.specs.inner.Buffer.{logged}
use Rattle.line_io.proofs.buffer.note.Given as goal

abbrev pub invariant-loop-byte : goal.invariant-loop-byte
invariant-loop-byte l = logged l.said.items ≡ logged l.initial.said.items ++ take l.byte-index l.bytes
