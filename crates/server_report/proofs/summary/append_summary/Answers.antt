use Rattle.std.proofs.lemmas.Result.{on_ok_weaker}
use Rattle.server_report.proofs.LineLaws.{seven_parts}
use Rattle.server_report.proofs.summary.append_summary.Goals as goal

pub returns : goal.returns
returns c =
    on_ok_weaker c.append_lost.result
    (λ last. seven_parts _ _ _ _ _ _ _ _ _ _ _ _ _ _ _ c.in_ok-append_count.ensures c.in_ok-append_count-2.ensures c.in_ok-append_refused.ensures c.in_ok-append_count-3.ensures
    c.in_ok-append_count-4.ensures c.in_ok-append_held.ensures last) c.append_lost.ensures
