use Rattle.std.proofs.Common.{◌≡◌, drop}
use Rattle.server_report.specs.Counting.{with_verdicts}
use Rattle.server_report.proofs.counts.Counts.add_copies.Given as goal

abbrev pub invariant-loop-verdict : goal.invariant-loop-verdict
invariant-loop-verdict l = with_verdicts (drop l.verdict-index l.verdicts) l.self ≡ with_verdicts l.verdicts l.fn.self
