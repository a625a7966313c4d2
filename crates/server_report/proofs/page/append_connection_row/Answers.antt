use Rattle.std.proofs.Common.{◌∙◌}
use Rattle.std.proofs.lemmas.Result.{on_ok_weaker}
use Rattle.server_report.specs.Page.{connection_row}
use Rattle.server_report.proofs.LineLaws.{five_told}
use Rattle.server_report.proofs.page.append_connection_row.Goals as goal

pub returns-clause-ok : goal.returns-clause-ok
unfolding connection_row
returns-clause-ok c =
    on_ok_weaker c.append_parts.result
    (λ is. five_told _ _ _ _ _ _ _ _ _ _ _ _ is c.as_slice.ensures (c.as_bytes-number.ensures.value ∙ c.format.ensures.text) c.as_slice-2.ensures c.state_words.ensures c.as_slice-3.ensures)
    c.append_parts.ensures.ok
