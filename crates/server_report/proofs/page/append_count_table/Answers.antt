use Rattle.server_report.proofs.LineLaws.{begins_before, where_err}
use Rattle.server_report.proofs.page.append_count_table.Goals as goal

pub returns-in_err-append_peer_rows-clause-err : goal.returns-in_err-append_peer_rows-clause-err
returns-in_err-append_peer_rows-clause-err c =
    where_err _ (begins_before _ _ _ _ _ _ c.in_ok-append_piece.ensures.ok c.in_ok-append_copy_rows.ensures.ok c.in_err-append_peer_rows.ensures.err)
