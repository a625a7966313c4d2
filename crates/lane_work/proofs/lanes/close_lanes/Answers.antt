use Rattle.std.proofs.Common.{rules, ◌≡◌, ◌<◌, ◌∙◌, ap, sym, subst, All, length, map, true, false, ℕ, arith}
use Rattle.std.proofs.lemmas.List.{length-map}
use Rattle.shard_queue.specs.Lane.{of}
use Rattle.shard_queue.specs.Closing.{IsWhole}
use Rattle.shard_queue.specs.declared.permits.SharedLane.{SharedLane}
use Rattle.shard_queue.specs.SharedLane.{said, ended_number}
use Rattle.lane_work.proofs.StepLaws.{list, no_items, removed}
use Rattle.lane_work.proofs.RowLaws.{consumers_length, ended_length}
use Rattle.lane_work.proofs.CloseLaws.{all_closed, closed_next, consumers_rest, ended_rest, torn_here, torn_later}
use Rattle.lane_work.proofs.lanes.close_lanes.Goals as goal
use Rattle.lane_work.proofs.lanes.close_lanes.Goals.{in-Ok, in-Err}

pub loop-preserved : goal.loop-preserved
loop-preserved g c =
    let view = g.C.Carrier.view in
    let is_of = g.C.Carrier.is_of in
    let room : SharedLane g.row.C.Denot → ℕ = λ lane. g.C.Carrier.room lane.carrier in
    let v = c.loop.invariant in
    let lanes = c.loop.lanes.items in
    let rows = c.loop.ended.items in
    let permits = c.loop.consumers.items in
    let some : 0 < length lanes = search rules in
    let rl = ended_length view is_of lanes (map list rows) v.2 in
    let ml = length-map rows list in
    let sl = consumers_length view is_of lanes permits v.3 in
    let q = c.remove-lane.result in
    let r = c.remove.result in
    let s = c.remove-in-loop.result in
    let qe = removed lanes c.remove-lane.new.self.items q some c.remove-lane.ensures.value c.remove-lane.ensures.items in
    let re = ap (map list) (removed rows c.remove.new.self.items r (omega (arith, some, rl, ml)) c.remove.ensures.value c.remove.ensures.items) in
    let se = removed permits c.remove-in-loop.new.self.items s (omega (arith, some, sl)) c.remove-in-loop.ensures.value c.remove-in-loop.ensures.items in
    let R = map list c.remove.new.self.items in
    let A = map list c.args.ended.items in
    let h = ended_rest view is_of lanes c.remove-lane.new.self.items q (map list rows) R r.items qe re v.2 in
    let k = consumers_rest view is_of lanes c.remove-lane.new.self.items q permits c.remove-in-loop.new.self.items s qe se v.3 in
    elim c.match-close.branch [
      | in-Ok w ↦
          let is = w.in-Ok.ensures in (
            search rules,
            search rules,
            h,
            k,
            λ quiet. closed_next view room lanes (map list rows) permits q r.items s c.remove-lane.new.self.items R c.remove-in-loop.new.self.items qe re se c.args.lanes.items A c.args.consumers.items
                c.loop.closed.items c.match-close.closed.items w.in-Ok.one (v.4 (sym w.torn-is ∙ quiet))
                (record {
                  taken = is.history;
                  each = subst (λ got. All (λ e. said view e ≡ of (ended_number e) got) r.items) (sym is.history) is.each;
                  whole = subst (IsWhole q.producers (room q)) (sym is.history) is.whole;
                })
                (ap (λ l. l.items) w.closed-is ∙ w.push_reserved.ensures.items),
            λ torn. v.5 (sym w.torn-is ∙ torn),
            λ t. v.6 (torn_later view room lanes (map list rows) permits q r.items s c.remove-lane.new.self.items R c.remove-in-loop.new.self.items qe re se t),
          )
      | in-Err w ↦ (
        search rules,
        search rules,
        h,
        k,
        λ quiet. absurd (let x : true ≡ false = sym w.torn-is ∙ quiet in cc),
        λ torn. v.6 (torn_here view room lanes (map list rows) permits q r.items s c.remove-lane.new.self.items R c.remove-in-loop.new.self.items qe re se w.in-Err.ensures.back.3),
        λ t. v.6 (torn_later view room lanes (map list rows) permits q r.items s c.remove-lane.new.self.items R c.remove-in-loop.new.self.items qe re se t),
      )
    ]

pub returns-else-torn : goal.returns-else-torn
returns-else-torn g c =
    let v = c.loop.invariant in
    let none : length c.loop.lanes.items ≡ 0 = search rules in
    all_closed g.C.Carrier.view g.C.Carrier.is_of (λ lane. g.C.Carrier.room lane.carrier) c.loop.lanes.items (map list c.loop.ended.items) c.loop.consumers.items c.args.lanes.items (map list c.args.ended.items) c.args.consumers.items c.loop.closed.items
    (no_items c.loop.lanes.items none) v.2 v.3 (v.4 c.if-torn.false)
