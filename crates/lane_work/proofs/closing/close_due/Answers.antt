use Rattle.std.proofs.Common.{sym, length}
use Rattle.lane_work.proofs.ClosingLaws.{still_shut}
use Rattle.lane_work.proofs.PermitLaws.{permits_length}
use Rattle.lane_work.proofs.closing.close_due.Goals as goal

pub end_where_shut-requires : goal.end_where_shut-requires
end_where_shut-requires g c =
    let lanes = c.args.context.now.intake.now.lanes.items in (
      c.requires.permits.0,
      still_shut c.args.connection c.closings_of.result.now c.args.directory.now c.mark_due.new.directory c.args.desk.now.permits.items (length lanes)
          (permits_length lanes c.args.desk.now.number c.args.desk.now.permits.items c.requires.permits.0) (sym c.requires.lanes) c.mark_due.ensures c.requires.permits.1,
    )
