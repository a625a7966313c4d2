use Rattle.std.proofs.Common.{take}
use Rattle.lane_work.specs.inner.Closing.{Marks}
use Rattle.lane_work.proofs.closing.mark_due.Given as goal

abbrev pub invariant-loop-closing : goal.invariant-loop-closing
invariant-loop-closing l = Marks l.connection (take l.closing-index l.closings) l.fn.directory l.directory
