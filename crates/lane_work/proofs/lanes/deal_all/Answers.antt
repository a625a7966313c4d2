use Rattle.std.proofs.Common.{rules, ◌≡◌, ◌≤◌, ◌+◌, ◌∷◌, [], ◌∙◌, suc, All, Vec, Global, ap, sym, subst, length, map, vec_capacity, arith}
use Rattle.std.proofs.lemmas.List.{length-map, map-append}
use Rattle.std.proofs.lemmas.List.Elements.{All-drop}
use Rattle.lane_work.specs.SharedLanes.{AreHands, Rows}
use Rattle.lane_work.proofs.StepLaws.{list}
use Rattle.lane_work.proofs.RowLaws.{hands_next, none_left}
use Rattle.lane_work.proofs.lanes.deal_all.Goals as goal

pub loop-number-preserved : goal.loop-number-preserved
loop-number-preserved g c =
    let view = g.C.Carrier.view in
    let is_of = g.C.Carrier.is_of in
    let v = c.loop-number.invariant in
    let P : Vec g.row.H.Denot Global → Type 0 = λ v. (v.items ≡ []) × (length c.args.lanes.now ≤ vec_capacity v) in
    let n = c.loop-number.number in
    let hands = c.loop-number.hands.items in
    let e : suc n ≡ n + 1 = omega arith in
    let m = length-map hands list in
    let count : n ≡ 0 + length (map list hands) = (let a = v.2 in let o = c.loop-number.hands.ok.0 in omega (arith, a, o, m)) in (
      search rules,
      subst (All P) (sym c.remove-room.ensures.items) (All-drop P 1 c.loop-number.rooms.items v.1),
      search rules,
      search rules,
      subst (λ k. Rows view is_of c.args.lanes.now k (map list c.deal.new.permits.items)) e c.deal.ensures.left,
      subst (AreHands view is_of g.H.Held.held c.args.lanes.now 0) (sym (ap (map list) c.push_reserved.ensures.items ∙ map-append list hands (c.deal.result ∷ [])))
          (hands_next view is_of g.H.Held.held c.args.lanes.now 0 n (map list hands) c.deal.result.items v.5 count c.deal.ensures.hand),
    )

pub spend_lists-requires : goal.spend_lists-requires
spend_lists-requires g c =
    let e : c.loop-number.number ≡ c.args.producers = search rules in
    none_left g.C.Carrier.view g.C.Carrier.is_of list c.args.lanes.now c.args.producers c.loop-number.permits.items
    (subst (λ k. Rows g.C.Carrier.view g.C.Carrier.is_of c.args.lanes.now k (map list c.loop-number.permits.items)) e c.loop-number.invariant.4) c.requires.producers
