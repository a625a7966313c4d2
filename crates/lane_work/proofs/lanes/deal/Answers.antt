use Rattle.std.proofs.Common.{rules, ◌≡◌, ◌+◌, sym, subst, length, map, slice_set, arith}
use Rattle.std.proofs.lemmas.List.{length-map}
use Rattle.lane_work.proofs.StepLaws.{StepTo, list, step_length}
use Rattle.lane_work.proofs.RowLaws.{Dealt, dealt, row_dealt, row_there, rows_length}
use Rattle.lane_work.proofs.lanes.deal.Goals as goal

pub index_mut-requires : goal.index_mut-requires
index_mut-requires g c =
    let n = step_length (Dealt g.H.Held.held list) c.loop-lane.lane c.args.permits.now.items c.loop-lane.permits.items c.loop-lane.hand.items c.loop-lane.invariant.2 in
    let l = rows_length g.C.Carrier.view g.C.Carrier.is_of c.args.lanes.now c.args.number (map list c.args.permits.now.items) c.requires.left in
    let m = length-map c.args.permits.now.items list in
    omega (arith, n, l, m, c.loop-lane.permits.ok.0, c.loop-lane-test.true)

pub remove-requires : goal.remove-requires
remove-requires g c =
    let s = row_there g.C.Carrier.view g.C.Carrier.is_of g.H.Held.held list c.args.lanes.now c.args.number c.args.permits.now.items c.loop-lane.permits.items c.loop-lane.hand.items c.loop-lane.lane
    c.loop-lane.invariant.2 c.requires.left c.requires.more c.loop-lane-test.true c.index_mut.result.now c.index_mut.ensures.value in
    omega (arith, s, c.index_mut.result.now.ok.0)

pub loop-lane-preserved : goal.loop-lane-preserved
loop-lane-preserved g c =
    let view = g.C.Carrier.view in
    let is_of = g.C.Carrier.is_of in
    let held = g.H.Held.held in
    let olds = c.args.permits.now.items in
    let news = c.loop-lane.permits.items in
    let i = c.loop-lane.lane in
    let some = row_there view is_of held list c.args.lanes.now c.args.number olds news c.loop-lane.hand.items i c.loop-lane.invariant.2 c.requires.left c.requires.more
    c.loop-lane-test.true c.index_mut.result.now c.index_mut.ensures.value in
    let n = step_length (Dealt held list) i olds news c.loop-lane.hand.items c.loop-lane.invariant.2 in
    let l = rows_length view is_of c.args.lanes.now c.args.number (map list olds) c.requires.left in
    let m = length-map olds list in (
      search rules,
      search rules,
      subst (StepTo (Dealt held list) (i + 1) olds (slice_set news i c.remove.new.self)) (sym c.push_reserved.ensures.items)
          (row_dealt view is_of held list i olds news c.loop-lane.hand.items c.loop-lane.invariant.2 (omega (arith, n, l, m, c.loop-lane-test.true)) c.index_mut.result.now c.remove.new.self
          c.remove.result c.index_mut.ensures.value some c.remove.ensures.value c.remove.ensures.items c.hold.result c.hold.ensures),
    )

pub returns-clause-hand : goal.returns-clause-hand
returns-clause-hand g c =
    let e : c.loop-lane.lane ≡ length c.args.lanes.now = search rules in
    (dealt g.C.Carrier.view g.C.Carrier.is_of g.H.Held.held list c.args.lanes.now c.args.number c.args.permits.now.items c.loop-lane.permits.items c.loop-lane.hand.items
    (subst (λ n. StepTo (Dealt g.H.Held.held list) n c.args.permits.now.items c.loop-lane.permits.items c.loop-lane.hand.items) e c.loop-lane.invariant.2) c.requires.left).0

pub returns-clause-left : goal.returns-clause-left
returns-clause-left g c =
    let e : c.loop-lane.lane ≡ length c.args.lanes.now = search rules in
    (dealt g.C.Carrier.view g.C.Carrier.is_of g.H.Held.held list c.args.lanes.now c.args.number c.args.permits.now.items c.loop-lane.permits.items c.loop-lane.hand.items
    (subst (λ n. StepTo (Dealt g.H.Held.held list) n c.args.permits.now.items c.loop-lane.permits.items c.loop-lane.hand.items) e c.loop-lane.invariant.2) c.requires.left).1
