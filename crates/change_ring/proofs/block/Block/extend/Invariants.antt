use Rattle.std.proofs.Common.{◌≡◌, ◌++◌, take}
use Rattle.change_ring.proofs.block.Block.extend.Given as goal

abbrev pub invariant-loop-change : goal.invariant-loop-change
invariant-loop-change l = record {
  written : l.self.written ≡ l.fn.self.written ++ take l.change-index l.changes;
  capacity : l.self.capacity ≡ l.fn.self.capacity;
}
