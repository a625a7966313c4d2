use Rattle.std.proofs.Common.{rules, ◌≤◌, ◌+◌, ◌∙◌, sym, subst, drop, length, length-drop, vec_len, arith}
use Rattle.lane_work.specs.Permits.{ArePermits}
use Rattle.lane_work.proofs.PermitLaws.{first_permit, permits_length}
use Rattle.running_house.proofs.aside.end_first.Goals as goal

pub remove-permit-requires : goal.remove-permit-requires
remove-permit-requires g c =
    let v = c.loop-lane.invariant in
    let n = permits_length (drop c.loop-lane.lane c.args.intake.now.lanes.items) c.args.post.desk.number c.loop-lane.permits.items v.0 in
    let l = length-drop c.loop-lane.lane c.args.intake.now.lanes.items in
    omega (arith, n, l, c.loop-lane-test.true, c.loop-lane.permits.ok.0, c.requires.manned)

pub loop-lane-preserved : goal.loop-lane-preserved
loop-lane-preserved g c =
    let v = c.loop-lane.invariant in
    let lanes = c.args.intake.now.lanes.items in
    let i = c.loop-lane.lane in
    let f = first_permit lanes i c.args.post.desk.number c.loop-lane.permits.items (omega (arith, c.loop-lane-test.true, c.requires.manned)) v.0 c.index.result.now c.remove-permit.result c.remove-permit.ensures.value in (
      subst (ArePermits (drop (i + 1) lanes) c.args.post.desk.number) (sym c.remove-permit.ensures.items) f.3,
      c.push_reserved.ensures.len ∙ search rules,
      search rules,
    )

pub returns : goal.returns
returns g c =
    let v = c.loop-lane.invariant in
    let lanes = c.args.intake.now.lanes.items in
    let n = permits_length (drop c.loop-lane.lane lanes) c.args.post.desk.number c.loop-lane.permits.items v.0 in
    let l = length-drop c.loop-lane.lane lanes in
    let all : vec_len c.loop-lane.permits + vec_len c.loop-lane.room ≤ length lanes = omega (arith, n, l, v.1, c.loop-lane-test.false, c.loop-lane.auto.lane-end, c.loop-lane.permits.ok.0, c.requires.manned) in
    all
