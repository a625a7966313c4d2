use Rattle.server_report.specs.Page.{peer_rows}
use Rattle.server_report.proofs.LineLaws.{three_parts}
use Rattle.server_report.proofs.page.append_peer_rows.Goals as goal

pub returns-clause-ok : goal.returns-clause-ok
unfolding peer_rows
returns-clause-ok c = three_parts _ _ _ _ _ _ _ c.in_ok-append_count_row.ensures.ok c.in_ok-append_count_row-2.ensures.ok c.in_ok-append_count_row-3.ensures.ok
