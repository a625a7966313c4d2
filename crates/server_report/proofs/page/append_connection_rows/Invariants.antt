use Rattle.std.proofs.Common.{◌≡◌, ◌++◌, flat_map, take}
use Rattle.std.specs.Io.{StartsWith}
use Rattle.server_report.specs.Page.{connection_row}
use Rattle.server_report.proofs.page.append_connection_rows.Given as goal

abbrev pub invariant-loop-connection : goal.invariant-loop-connection
invariant-loop-connection l = record {
  so_far : l.out.items ≡ l.initial.out.items ++ flat_map connection_row (take l.connection-index l.connections);
  front : StartsWith l.out.items l.initial.out.items;
}
