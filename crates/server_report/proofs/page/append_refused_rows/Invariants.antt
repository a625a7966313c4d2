use Rattle.std.proofs.Common.{◌≡◌, ◌++◌, flat_map, take}
use Rattle.std.specs.Io.{StartsWith}
use Rattle.server_report.specs.Page.{refused_row}
use Rattle.server_report.proofs.page.append_refused_rows.Given as goal

abbrev pub invariant-loop-reason : goal.invariant-loop-reason
invariant-loop-reason l = record {
  so_far : l.out.items ≡ l.initial.out.items ++ flat_map (refused_row l.refused) (take l.reason-index l.order);
  front : StartsWith l.out.items l.initial.out.items;
}
