use Rattle.std.proofs.Common.{◌≡◌, ◌++◌, flat_map, take}
use Rattle.std.specs.Io.{StartsWith}
use Rattle.server_report.specs.Metrics.{mailbox_sample}
use Rattle.server_report.proofs.metrics.append_mailbox_samples.Given as goal

abbrev pub invariant-loop-row : goal.invariant-loop-row
invariant-loop-row l = record {
  so_far : l.out.items ≡ l.initial.out.items ++ flat_map (mailbox_sample l.of) (take l.row-index l.rows);
  front : StartsWith l.out.items l.initial.out.items;
}
