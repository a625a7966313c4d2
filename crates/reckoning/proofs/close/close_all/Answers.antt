use Rattle.std.proofs.Common.{◌≡◌, subst, sym, length, map, vec_len, All, List, arith}
use Rattle.std.proofs.lemmas.List.{length-map}
use Rattle.shard_queue.specs.declared.permits.EndedPermit.{EndedPermit}
use Rattle.lane_work.specs.SharedLanes.{AllIn, EndedRows}
use Rattle.lane_work.proofs.RowLaws.{all_in, all_stay_ended, none_ended}
use Rattle.reckoning.proofs.Hands.{hands_length, is_empty, is_room, match_both, same_lengths}
use Rattle.reckoning.proofs.close.close_all.Goals as goal

pub collect_all-requires-clause-each : goal.collect_all-requires-clause-each
collect_all-requires-clause-each g c =
    let n = c.requires.lists.0 in
    let same : length c.args.lanes.items ≡ vec_len c.args.lists = omega (arith, n, c.args.lanes.ok.0) in
    hands_length g.C.Carrier.view g.C.Carrier.is_of c.args.lanes.items (vec_len c.args.lists) same 0 c.args.hands.items c.requires.hands

pub collect_all-requires-clause-room : goal.collect_all-requires-clause-room
collect_all-requires-clause-room g c = is_room (vec_len c.args.lanes) (vec_len c.args.hands) c.args.lists c.requires.lists

pub close_lanes-requires-clause-ended : goal.close_lanes-requires-clause-ended
close_lanes-requires-clause-ended g c =
    let view = g.C.Carrier.view in
    let is_of = g.C.Carrier.is_of in
    let lanes = c.args.lanes.items in
    let lists = c.args.lists in
    let rows = map (λ v. v.items) lists.items in
    let n = c.requires.lists.0 in
    let m = length-map lists.items (λ v. v.items) in
    let count : length rows ≡ length lanes = omega (arith, m, n, lists.ok.0, c.args.lanes.ok.0) in
    subst (EndedRows view is_of lanes) (sym c.collect_all.ensures)
    (all_stay_ended view is_of lanes 0 rows (map (λ v. v.items) c.args.hands.items) c.requires.hands
    (none_ended view is_of lanes rows count (is_empty (vec_len c.args.lanes) (vec_len c.args.hands) lists c.requires.lists)))

pub returns : goal.returns
returns g c =
    let lists = c.args.lists in
    let rows = map (λ v. v.items) lists.items in
    let n = c.requires.lists.0 in
    let m = length-map lists.items (λ v. v.items) in
    let count : length c.args.lanes.items ≡ length rows = omega (arith, m, n, lists.ok.0, c.args.lanes.ok.0) in
    let hands = map (λ v. v.items) c.args.hands.items in
    let each : All (λ (h : List (EndedPermit g.row.C-Pass.Denot)). length h ≡ length rows) hands =
    same_lengths g.C.Carrier.view g.C.Carrier.is_of c.args.lanes.items (length rows) count 0 hands c.requires.hands in
    let within : AllIn hands (map (λ v. v.items) c.collect_all.new.lists.items) = subst (AllIn hands) (sym c.collect_all.ensures) (all_in rows hands each) in
    match_both c.close_lanes.result (λ torn. (map (λ v. v.items) c.collect_all.new.lists.items, within, torn))
    (λ cs closed. (map (λ v. v.items) c.collect_all.new.lists.items, within, closed)) c.close_lanes.ensures
