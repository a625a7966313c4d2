use Rattle.std.proofs.Common.{rules, ◌≡◌, ◌≤◌, ◌<◌, ◌+◌, ◌∷◌, [], ◌∙◌, suc, All, Vec, Global, ap, sym, subst, length, map, vec_len, vec_capacity, arith}
use Rattle.std.proofs.lemmas.List.{length-map, map-append}
use Rattle.std.proofs.lemmas.List.Elements.{All-drop, All-push}
use Rattle.delivery_token.specs.declared.Job.{Job}
use Rattle.shard_queue.specs.Permits.{Ended}
use Rattle.lane_work.specs.LanePermits.{AreEndedHands, AreHands}
use Rattle.lane_work.proofs.StepLaws.{list, removed}
use Rattle.lane_work.proofs.RowLaws.{ended_hands_next, first_hand}
use Rattle.lane_work.proofs.PermitLaws.{new_permits}
use Rattle.lane_work.specs.declared.desk.LanePermit.TheVariants.{Live}
use Rattle.shard_queue.specs.Permits.{is_of, view}
use Rattle.tests_threads.proofs.tests.lanes.end_hands.Goals as goal

pub end_hand-requires-clause-permits : goal.end_hand-requires-clause-permits
end_hand-requires-clause-permits g c =
    let lanes = c.args.lanes.now in
    let n = c.loop-number.number in
    let hands = c.loop-number.hands.items in
    let some : 0 < length hands = search rules in
    let h = first_hand view is_of (λ permit. Live permit) lanes n (map list hands) (map list c.remove-hand.new.self.items) c.remove-hand.result.items
    (ap (map list) (removed hands c.remove-hand.new.self.items c.remove-hand.result some c.remove-hand.ensures.value c.remove-hand.ensures.items)) c.loop-number.invariant.1 in
    (new_permits lanes n c.remove-hand.result.items h.0).0

pub loop-number-preserved : goal.loop-number-preserved
loop-number-preserved g c =
    let v = c.loop-number.invariant in
    let P : Vec (Ended Job) Global → Type 0 = λ v. (v.items ≡ []) × (length c.args.lanes.now ≤ vec_capacity v) in
    let Q : Vec (Ended Job) Global → Type 0 = λ v. vec_len v ≡ length c.args.lanes.now in
    let lanes = c.args.lanes.now in
    let n = c.loop-number.number in
    let all = c.loop-number.all.items in
    let hands = c.loop-number.hands.items in
    let some : 0 < length hands = search rules in
    let e : suc n ≡ n + 1 = omega arith in
    let m = length-map all list in
    let h = first_hand view is_of (λ permit. Live permit) lanes n (map list hands) (map list c.remove-hand.new.self.items) c.remove-hand.result.items
    (ap (map list) (removed hands c.remove-hand.new.self.items c.remove-hand.result some c.remove-hand.ensures.value c.remove-hand.ensures.items)) v.1 in
    let count : n ≡ 0 + length (map list all) = (let a = v.4 in let o = c.loop-number.all.ok.0 in omega (arith, a, o, m)) in (
      search rules,
      subst (λ k. AreHands lanes k (map list c.remove-hand.new.self.items)) e h.1,
      search rules,
      subst (All P) (sym c.remove-room.ensures.items) (All-drop P 1 c.loop-number.each.items v.3),
      search rules,
      search rules,
      subst (All Q) (sym c.push_reserved.ensures.items) (All-push Q all c.end_hand.result v.6 c.end_hand.ensures.len),
      subst (AreEndedHands lanes 0) (sym (ap (map list) c.push_reserved.ensures.items ∙ map-append list all (c.end_hand.result ∷ [])))
          (ended_hands_next view is_of lanes 0 n (map list all) c.end_hand.result.items v.7 count c.end_hand.ensures.ended),
    )
