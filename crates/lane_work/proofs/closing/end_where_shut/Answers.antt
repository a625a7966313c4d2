use Rattle.std.proofs.Common.{◌<◌, ◌∙◌, length, refl, arith}
use Rattle.lane_work.proofs.RoundLaws.{round_first, round_last, round_next, round_taken, some_left}
use Rattle.lane_work.proofs.closing.end_where_shut.Goals as goal

pub loop-lane-init : goal.loop-lane-init
loop-lane-init g c = (round_first c.args.directory.now c.args.context.now.intake.now.lanes.items c.args.desk.now.number c.args.desk.now.permits.items, refl, refl, refl, refl)

pub remove-permit-requires : goal.remove-permit-requires
remove-permit-requires g c =
    let lanes = c.args.context.now.intake.now.lanes.items in
    let under : c.loop-lane.lane < length lanes = omega (arith, c.loop-lane-test.true, c.len-lane-end.ensures) in
    let some = some_left c.args.directory.now lanes c.args.desk.now.number c.args.desk.now.permits.items c.loop-lane.lane c.loop-lane.desk.permits.items c.requires.0 under c.loop-lane.invariant.0 in
    omega (arith, some, c.loop-lane.desk.permits.ok.0)

pub left_at-left-requires : goal.left_at-left-requires
left_at-left-requires g c =
    let lanes = c.args.context.now.intake.now.lanes.items in
    let under : c.loop-lane.lane < length lanes = omega (arith, c.loop-lane-test.true, c.len-lane-end.ensures) in
    (round_taken c.args.directory.now lanes c.args.desk.now.number c.args.desk.now.permits.items c.loop-lane.lane c.loop-lane.desk.permits.items c.remove-permit.result c.requires.0 under c.loop-lane.invariant.0
    c.remove-permit.ensures.value c.index-at.result.now c.index-at.ensures).0

pub loop-lane-preserved : goal.loop-lane-preserved
loop-lane-preserved g c =
    let v = c.loop-lane.invariant in
    let lanes = c.args.context.now.intake.now.lanes.items in
    let p = c.args.desk.now.number in
    let old = c.args.desk.now.permits.items in
    let under : c.loop-lane.lane < length lanes = omega (arith, c.loop-lane-test.true, c.len-lane-end.ensures) in
    let t = round_taken c.args.directory.now lanes p old c.loop-lane.lane c.loop-lane.desk.permits.items c.remove-permit.result c.requires.0 under v.0 c.remove-permit.ensures.value c.index-at.result.now c.index-at.ensures in (
      round_next c.args.directory.now lanes p old c.loop-lane.lane c.loop-lane.desk.permits.items c.remove-permit.new.self.items c.push_reserved.new.self.items c.remove-permit.result c.left_at-left.result c.is_shut-shut.result
          c.requires.0 under v.0 t.2 (c.remove-permit.ensures.items ∙ t.3) c.push_reserved.ensures.items c.index-at.result.now c.index-at.ensures c.left_at-left.ensures.permit.0 (c.left_at-left.ensures.permit.1 ∙ t.1)
          c.left_at-left.ensures.put c.is_shut-shut.ensures c.left_at-left.ensures.over,
      v.1,
      v.2,
      v.3,
      v.4,
    )

pub returns-clause-permits : goal.returns-clause-permits
returns-clause-permits g c =
    let lanes = c.args.context.now.intake.now.lanes.items in
    let r = round_last c.args.directory.now lanes c.args.desk.now.number c.args.desk.now.permits.items c.loop-lane.lane c.loop-lane.desk.permits.items c.requires.0 c.requires.1
    (omega (arith, c.loop-lane-test.false, c.len-lane-end.ensures, c.loop-lane.auto.lane-end)) c.loop-lane.invariant.0 in
    (r.0, r.1)

pub returns-clause-kept : goal.returns-clause-kept
returns-clause-kept g c =
    let lanes = c.args.context.now.intake.now.lanes.items in
    let v = c.loop-lane.invariant in
    let r = round_last c.args.directory.now lanes c.args.desk.now.number c.args.desk.now.permits.items c.loop-lane.lane c.loop-lane.desk.permits.items c.requires.0 c.requires.1
    (omega (arith, c.loop-lane-test.false, c.len-lane-end.ensures, c.loop-lane.auto.lane-end)) v.0 in
    (v.1, v.2, v.3, r.2, v.4)

pub returns-clause-over : goal.returns-clause-over
returns-clause-over g c =
    let lanes = c.args.context.now.intake.now.lanes.items in
    (round_last c.args.directory.now lanes c.args.desk.now.number c.args.desk.now.permits.items c.loop-lane.lane c.loop-lane.desk.permits.items c.requires.0 c.requires.1
    (omega (arith, c.loop-lane-test.false, c.len-lane-end.ensures, c.loop-lane.auto.lane-end)) c.loop-lane.invariant.0).3
