use Rattle.std.proofs.Common.{rules, ◌+◌, ◌∙◌, sym, subst, take, drop, length-drop, arith}
use Rattle.delivery_token.specs.declared.Job.{Job}
use Rattle.shard_queue.specs.Permits.{ShardQueue}
use Rattle.shard_queue.specs.Permits.{IsEnded}
use Rattle.lane_work.specs.Permits.{AreEnded, ArePermits}
use Rattle.lane_work.proofs.PermitLaws.{permits_length, first_permit, ended_next}
use Rattle.tests_threads.proofs.tests.lanes.end_hand.Goals as goal

pub remove-permit-requires : goal.remove-permit-requires
remove-permit-requires g c =
    let v = c.loop-lane.invariant in
    let n = permits_length (drop c.loop-lane.lane c.args.lanes.now) c.args.number c.loop-lane.hand.items v.0 in
    let l = length-drop c.loop-lane.lane c.args.lanes.now in
    omega (arith, n, l, c.loop-lane-test.true, c.loop-lane.hand.ok.0)

pub loop-lane-preserved : goal.loop-lane-preserved
loop-lane-preserved g c =
    let v = c.loop-lane.invariant in
    let lanes = c.args.lanes.now in
    let i = c.loop-lane.lane in
    let f = first_permit lanes i c.args.number c.loop-lane.hand.items c.loop-lane-test.true v.0 c.index-lanes-lane.result c.remove-permit.result c.remove-permit.ensures.value in (
      subst (ArePermits (drop (i + 1) lanes) c.args.number) (sym c.remove-permit.ensures.items) f.3,
      subst (AreEnded (take (i + 1) lanes) c.args.number) (sym c.push_reserved.ensures.items)
          (ended_next lanes i c.args.number c.loop-lane.ended.items c.end_permit.result c.loop-lane-test.true v.1 c.index-lanes-lane.result
          (subst (λ (q : ShardQueue Job). IsEnded q c.end_permit.result) c.index-lanes-lane.is c.end_permit.ensures.0) (c.end_permit.ensures.1 ∙ f.1)),
      c.push_reserved.ensures.len ∙ search rules,
      search rules,
    )
