use Rattle.std.proofs.lemmas.Result.{on_ok_weaker}
use Rattle.server_report.specs.Metrics.{help_line}
use Rattle.server_report.proofs.LineLaws.{five_told}
use Rattle.server_report.proofs.metrics.append_help.Goals as goal

pub returns-clause-ok : goal.returns-clause-ok
unfolding help_line
returns-clause-ok c =
    on_ok_weaker c.append_parts.result
    (λ is. five_told _ _ _ _ _ _ _ _ _ _ _ _ is c.as_slice.ensures c.name_of.ensures c.as_slice-2.ensures c.help_of.ensures c.as_slice-3.ensures)
    c.append_parts.ensures.ok
