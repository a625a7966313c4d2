use Rattle.std.proofs.Common.{◌≡◌, ◌++◌, flat_map, take}
use Rattle.std.specs.Io.{StartsWith}
use Rattle.server_report.specs.Page.{session_row}
use Rattle.server_report.proofs.page.append_session_rows.Given as goal

abbrev pub invariant-loop-session : goal.invariant-loop-session
invariant-loop-session l = record {
  so_far : l.out.items ≡ l.initial.out.items ++ flat_map session_row (take l.session-index l.sessions);
  front : StartsWith l.out.items l.initial.out.items;
}
