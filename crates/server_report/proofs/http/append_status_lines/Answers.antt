use Rattle.std.proofs.lemmas.Result.{on_ok_weaker}
use Rattle.server_report.specs.Http.{status_lines}
use Rattle.server_report.proofs.LineLaws.{four_told}
use Rattle.server_report.proofs.http.append_status_lines.Goals as goal

pub returns : goal.returns
unfolding status_lines
returns c =
    on_ok_weaker c.append_parts.result
    (λ is. four_told _ _ _ _ _ _ _ _ _ _ is c.as_slice.ensures c.status_words.ensures c.as_slice-2.ensures c.allow_line.ensures)
    c.append_parts.ensures.ok
