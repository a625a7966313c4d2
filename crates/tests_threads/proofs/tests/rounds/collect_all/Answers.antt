use Rattle.std.proofs.Common.{rules, ◌≡◌, subst, sym, map, vec_len, arith}
use Rattle.std.proofs.lemmas.List.{length-map}
use Rattle.std.specs.Mem.{manually_drop_value}
use Rattle.shard_queue.specs.Permits.{is_of, view}
use Rattle.lane_work.proofs.RowLaws.{ended_hand_length, ended_length, stay_ended}
use Rattle.lane_work.specs.LanePermits.{EndedRows}
use Rattle.tests_threads.specs.inner.Rounds.{AreSomeones}
use Rattle.tests_threads.specs.declared.tests.rounds.Left.{Left}
use Rattle.tests_threads.proofs.RoundLaws.{popped}
use Rattle.tests_threads.proofs.tests.rounds.collect_all.Goals as goal

pub collect-requires-clause-each : goal.collect-requires-clause-each
collect-requires-clause-each g c =
    let v = c.loop-parcel.invariant in
    let lanes = c.args.shared.now.intake.lanes.items in
    let lists = c.loop-parcel.lists in
    let own = popped (λ x. AreSomeones lanes (manually_drop_value {X = Left _} x).ended.items) c.loop-parcel.left.items c.pop.new.self.items c.in-Some.parcel c.in-Some.ensures.items v.0 in
    let same : manually_drop_value {X = Left _} c.in-Some.parcel ≡ c.into_inner-ended.result = search rules in
    let mine = subst (λ (l : Left _). AreSomeones lanes l.ended.items) same own.1 in
    let a = ended_hand_length view is_of lanes mine.number c.into_inner-ended.result.ended.items mine.are in
    let b = ended_length view is_of lanes (map (λ v. v.items) lists.items) v.1 in
    let m = length-map lists.items (λ v. v.items) in
    let o = lists.ok.0 in
    let p = c.into_inner-ended.result.ended.ok.0 in
    omega (arith, a, b, m, o, p)

pub loop-parcel-preserved : goal.loop-parcel-preserved
loop-parcel-preserved g c =
    let v = c.loop-parcel.invariant in
    let lanes = c.args.shared.now.intake.lanes.items in
    let own = popped (λ x. AreSomeones lanes (manually_drop_value {X = Left _} x).ended.items) c.loop-parcel.left.items c.pop.new.self.items c.in-Some.parcel c.in-Some.ensures.items v.0 in
    let same : manually_drop_value {X = Left _} c.in-Some.parcel ≡ c.into_inner-ended.result = search rules in
    let mine = subst (λ (l : Left _). AreSomeones lanes l.ended.items) same own.1 in (
      own.0,
      subst (EndedRows lanes) (sym c.collect.ensures.lists)
          (stay_ended view is_of lanes mine.number (map (λ v. v.items) c.loop-parcel.lists.items) c.into_inner-ended.result.ended.items mine.are v.1),
      c.collect.ensures.room (vec_len c.pop.new.self) (search rules),
      search rules,
      search rules,
    )
