use Rattle.std.proofs.Common.{rules, ◌+◌, ◌<◌, length, ◌∙◌, sym, subst, map, take, drop, length-drop, arith}
use Rattle.shard_queue.specs.Permits.{IsEnded}
use Rattle.lane_work.specs.Permits.{put_by}
use Rattle.lane_work.specs.Permits.{AreEnded, ArePermits}
use Rattle.lane_work.proofs.PermitLaws.{permits_length, first_permit, ended_next, said_next}
use Rattle.lane_work.proofs.ending.end_all.Goals as goal

pub remove-permit-requires : goal.remove-permit-requires
remove-permit-requires g c =
    let v = c.loop-lane.invariant in
    let n = permits_length (drop c.loop-lane.lane c.args.intake.now.lanes.items) c.args.number c.loop-lane.permits.items v.0 in
    let l = length-drop c.loop-lane.lane c.args.intake.now.lanes.items in
    omega (arith, n, l, c.loop-lane-test.true, c.loop-lane.permits.ok.0)

pub loop-lane-preserved : goal.loop-lane-preserved
loop-lane-preserved g c =
    let v = c.loop-lane.invariant in
    let lanes = c.args.intake.now.lanes.items in
    let i = c.loop-lane.lane in
    let under : i < length lanes = omega (arith, c.loop-lane-test.true, c.len-lane-end.ensures) in
    let f = first_permit lanes i c.args.number c.loop-lane.permits.items under v.0 c.index.result.now c.remove-permit.result c.remove-permit.ensures.value in (
      subst (ArePermits (drop (i + 1) lanes) c.args.number) (sym c.remove-permit.ensures.items) f.3,
      subst (AreEnded (take (i + 1) lanes) c.args.number) (sym c.push_reserved.ensures.items)
          (ended_next lanes i c.args.number c.loop-lane.ended.items c.end_permit.result under v.1 c.index.result.now (subst (λ q. IsEnded q c.end_permit.result) c.index.ensures c.end_permit.ensures.0) (c.end_permit.ensures.1 ∙ f.1)),
      c.push_reserved.ensures.len ∙ search rules,
      search rules,
      said_next c.args.number c.loop-lane.ended.items c.push_reserved.new.self.items c.loop-lane.permits.items c.remove-permit.new.self.items c.end_permit.result c.remove-permit.result (map put_by c.args.permits.items)
          c.push_reserved.ensures.items f.2 c.remove-permit.ensures.items f.1 c.end_permit.ensures.2 v.4,
    )
