use Rattle.std.proofs.Common.{refl}
use Rattle.std.proofs.lemmas.Result.{on_ok_weaker}
use Rattle.server_report.specs.Page.{count_cell}
use Rattle.server_report.proofs.LineLaws.{four_told}
use Rattle.server_report.proofs.page.append_count_cell.Goals as goal

pub returns-clause-ok : goal.returns-clause-ok
unfolding count_cell
returns-clause-ok c =
    on_ok_weaker c.append_parts.result
    (λ is. four_told _ _ _ _ _ _ _ _ _ _ is c.as_slice.ensures refl refl c.as_slice-2.ensures)
    c.append_parts.ensures.ok
