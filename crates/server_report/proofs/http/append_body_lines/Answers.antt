use Rattle.std.proofs.Common.{◌∙◌}
use Rattle.std.proofs.lemmas.Result.{on_ok_weaker}
use Rattle.server_report.specs.Http.{body_lines}
use Rattle.server_report.proofs.LineLaws.{five_told}
use Rattle.server_report.proofs.http.append_body_lines.Goals as goal

pub returns : goal.returns
unfolding body_lines
returns c =
    on_ok_weaker c.append_parts.result
    (λ is. five_told _ _ _ _ _ _ _ _ _ _ _ _ is c.as_slice.ensures c.media_type.ensures c.as_slice-2.ensures (c.as_bytes-size.ensures.value ∙ c.format.ensures.text) c.as_slice-3.ensures)
    c.append_parts.ensures.ok
