use Rattle.server_report.specs.Page.{copy_rows}
use Rattle.server_report.proofs.LineLaws.{three_parts}
use Rattle.server_report.proofs.page.append_copy_rows.Goals as goal

pub returns-clause-ok : goal.returns-clause-ok
unfolding copy_rows
returns-clause-ok c = three_parts _ _ _ _ _ _ _ c.in_ok-append_count_row.ensures.ok c.in_ok-append_count_row-2.ensures.ok c.in_ok-append_refused_rows.ensures.ok
