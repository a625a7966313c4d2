use Rattle.std.proofs.Common.{rules, ◌≡◌, ◌++◌, ◌∷◌, ◌+◌, ◌<◌, [], ◌∙◌, All, List, ℕ, suc, ap, sym, subst, map, take, get_or, length, take-suc, arith}
use Rattle.std.proofs.lemmas.List.{map-append}
use Rattle.std.proofs.lemmas.List.Elements.{All-push}
use Rattle.shard_queue.specs.declared.permits.SharedLane.{SharedLane}
use Rattle.shard_queue.specs.declared.permits.ConsumersPermit.{ConsumersPermit}
use Rattle.shard_queue.specs.SharedLane.{taken}
use Rattle.lane_work.specs.SharedLanes.{Rows, AreConsumers}
use Rattle.lane_work.proofs.StepLaws.{list}
use Rattle.lane_work.proofs.RowLaws.{all_left, consumers_next, rows_next}
use Rattle.lane_work.proofs.lanes.make_lanes.Goals as goal

-- one room more
next_room : (rooms : List ℕ) (position : ℕ) → position < length rooms → take (position + 1) rooms ≡ take position rooms ++ get_or rooms position 0 ∷ []
next_room rooms position under = let on : position + 1 ≡ suc position = omega arith in ap (λ n. take n rooms) on ∙ take-suc rooms position 0 under

pub loop-position-preserved : goal.loop-position-preserved
loop-position-preserved g c =
    let view = g.C.Carrier.view in
    let is_of = g.C.Carrier.is_of in
    let l = c.loop-position in
    let v = l.invariant in
    let made = c.in-Ok.ensures in
    let room : SharedLane g.row.C.Denot → ℕ = λ lane. g.C.Carrier.room lane.carrier in
    let P : SharedLane g.row.C.Denot → Type 0 = λ lane. lane.producers ≡ c.args.producers in
    let Q : ConsumersPermit g.row.C-Pass.Denot → Type 0 = λ s. taken view s ≡ [] in
    let lanes = l.lanes.lanes.items in
    let rows = l.lanes.permits.items in
    let more = map-append list rows (c.in-Ok.permits ∷ []) in
    let left = all_left view is_of c.in-Ok.lane c.args.producers 0 c.in-Ok.permits.items (let e = made.lane.1 in omega (arith, e)) made.numbers made.permits in (
      search rules,
      search rules,
      search rules,
      search rules,
      search rules,
      search rules,
      ap (map room) c.push_reserved.ensures.items ∙ map-append room lanes (c.in-Ok.lane ∷ []) ∙ ap (λ xs. xs ++ room c.in-Ok.lane ∷ []) v.6
          ∙ ap (λ n. take l.position c.args.rooms.now ++ n ∷ []) made.lane.0 ∙ sym (next_room c.args.rooms.now l.position (search rules)),
      subst (All P) (sym c.push_reserved.ensures.items) (All-push P lanes c.in-Ok.lane v.7 made.lane.1),
      subst (Rows view is_of c.push_reserved.new.self.items 0) (sym (ap (map list) c.push_reserved-in-Ok.ensures.items ∙ more))
          (subst (λ qs. Rows view is_of qs 0 (map list rows ++ c.in-Ok.permits.items ∷ [])) (sym c.push_reserved.ensures.items)
          (rows_next view is_of lanes 0 (map list rows) c.in-Ok.lane c.in-Ok.permits.items v.8 left)),
      subst (AreConsumers view is_of c.push_reserved.new.self.items) (sym c.push_reserved-in-Ok-2.ensures.items)
          (subst (λ qs. AreConsumers view is_of qs (l.lanes.consumers.items ++ c.in-Ok.consumer ∷ [])) (sym c.push_reserved.ensures.items)
          (consumers_next view is_of lanes l.lanes.consumers.items c.in-Ok.lane c.in-Ok.consumer v.9 made.consumer.0)),
      subst (All Q) (sym c.push_reserved-in-Ok-2.ensures.items) (All-push Q l.lanes.consumers.items c.in-Ok.consumer v.10 made.consumer.1),
    )
