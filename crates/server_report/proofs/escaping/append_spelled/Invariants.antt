use Rattle.std.proofs.Common.{◌≡◌, ◌++◌, flat_map, take}
use Rattle.std.specs.Io.{StartsWith}
use Rattle.server_report.specs.Escaping.{spelled_byte}
use Rattle.server_report.proofs.escaping.append_spelled.Given as goal

abbrev pub invariant-loop-byte : goal.invariant-loop-byte
invariant-loop-byte l = record {
  so_far : l.out.items ≡ l.initial.out.items ++ flat_map (spelled_byte l.way) (take l.byte-index l.name);
  front : StartsWith l.out.items l.initial.out.items;
}
