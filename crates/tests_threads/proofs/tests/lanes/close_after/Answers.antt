use Rattle.std.proofs.Common.{◌≡◌, ◌≤◌, ◌+◌, ◌∙◌, [], All, Vec, Global, ap, length, map, subst, sym, vec_len, vec_capacity, arith}
use Rattle.std.proofs.lemmas.List.{length-map}
use Rattle.std.proofs.lemmas.List.Elements.{All-map, All-weaker}
use Rattle.delivery_token.specs.declared.Job.{Job}
use Rattle.shard_queue.specs.Permits.{Ended}
use Rattle.lane_work.specs.Rooms.{AreRooms}
use Rattle.lane_work.specs.LanePermits.{AreEndedHands, AreHands, EndedRows}
use Rattle.lane_work.proofs.StepLaws.{list}
use Rattle.lane_work.proofs.RowLaws.{all_stay_ended, none_ended}
use Rattle.shard_queue.specs.Permits.{capacity_of, is_of, view}
use Rattle.tests_threads.proofs.tests.lanes.close_after.Goals as goal

-- the hands are of these lanes, wherever a slice of them is taken
pub end_hands-ended-requires-clause-hands : goal.end_hands-ended-requires-clause-hands
end_hands-ended-requires-clause-hands g c =
    let hands = map list c.deal_all-hands.result.items in
    subst (λ l. AreHands l 0 hands) (sym c.as_slice-2.ensures.value) (subst (λ l. AreHands l 0 hands) c.as_slice.ensures.value c.deal_all-hands.ensures.hands)

-- there are two lanes, and a list for each
pub collect_all-requires-clause-each : goal.collect_all-requires-clause-each
collect_all-requires-clause-each g c =
    let queues = c.in-Ok.lanes.lanes.items in
    let lists = c.in_ok-rooms.rooms.producers.lists in
    let n = c.in_ok-rooms.ensures.producers.2.0 in
    let k : length queues ≡ 2 = sym (length-map queues capacity_of) ∙ ap length c.in-Ok.ensures.rooms in
    let same : length queues ≡ vec_len lists = omega (arith, n, k) in
    subst (λ n. All (λ (v : Vec (Ended Job) Global). vec_len v ≡ n) c.end_hands-ended.result.items) (ap length c.as_slice-2.ensures.value ∙ same) c.end_hands-ended.ensures.each

pub collect_all-requires-clause-room : goal.collect_all-requires-clause-room
collect_all-requires-clause-room g c =
    let lists = c.in_ok-rooms.rooms.producers.lists in
    let three = c.end_hands-ended.ensures.count in
    All-weaker (λ (v : Vec (Ended Job) Global). (v.items ≡ []) × (3 ≤ vec_capacity v)) (λ v. vec_len v + vec_len c.end_hands-ended.result ≤ vec_capacity v)
    (λ v h. let e : length v.items ≡ 0 = ap length h.0 in let r = h.1 in let o = v.ok.0 in omega (arith, e, o, r, three)) lists.items c.in_ok-rooms.ensures.producers.2.1

-- nothing stood in the lists before the ended permits were collected
pub close_lanes-requires-clause-ended : goal.close_lanes-requires-clause-ended
close_lanes-requires-clause-ended g c =
    let queues = c.in-Ok.lanes.lanes.items in
    let lists = c.in_ok-rooms.rooms.producers.lists in
    let r : AreRooms 2 3 lists = c.in_ok-rooms.ensures.producers.2 in
    let P : Vec (Ended Job) Global → Type 0 = λ v. (v.items ≡ []) × (3 ≤ vec_capacity v) in
    let m = length-map lists.items list in
    let n = r.0 in
    let k : length queues ≡ 2 = sym (length-map queues capacity_of) ∙ ap length c.in-Ok.ensures.rooms in
    let count : length (map list lists.items) ≡ length queues = omega (arith, m, n, k, lists.ok.0, c.in-Ok.lanes.lanes.ok.0) in
    subst (EndedRows queues) (sym c.collect_all.ensures)
    (all_stay_ended view is_of queues 0 (map list lists.items) (map list c.end_hands-ended.result.items)
    (subst (λ l. AreEndedHands l 0 (map list c.end_hands-ended.result.items)) c.as_slice-2.ensures.value c.end_hands-ended.ensures.hands)
    (none_ended view is_of queues (map list lists.items) count (All-map (λ l. l ≡ []) list lists.items (All-weaker P (λ v. list v ≡ []) (λ v h. h.0) lists.items r.1))))
