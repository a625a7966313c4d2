use Rattle.std.proofs.Common.{◌≡◌, ◌++◌, take}
use Rattle.dot_stuffing.specs.Data.{stuffed}
use Rattle.dot_stuffing.proofs.Stuffed.{Stands}
use Rattle.dot_stuffing.proofs.dots.append_all.Given as goal

abbrev pub invariant-loop-byte : goal.invariant-loop-byte
invariant-loop-byte l = record {
  stands : Stands (take l.byte-index l.text) l.at_start l.after_cr;
  wire : l.out.items ≡ l.initial.out.items ++ stuffed (take l.byte-index l.text);
}
