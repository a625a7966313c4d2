use Rattle.std.proofs.Common.{◌≡◌, ◌++◌, flat_map, take}
use Rattle.server_report.specs.Summing.{refused_line}
use Rattle.server_report.proofs.summary.append_refused.Given as goal

abbrev pub invariant-loop-reason : goal.invariant-loop-reason
invariant-loop-reason l = l.out.items ≡ l.initial.out.items ++ flat_map (refused_line l.refused) (take l.reason-index l.order)
