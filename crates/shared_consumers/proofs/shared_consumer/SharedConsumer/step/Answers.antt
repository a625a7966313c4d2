use Rattle.std.proofs.Common.{◌≡◌, ◌++◌, ◌∷◌, [], ◌∙◌, ap, sym, subst, length, slice_get, Some}
use Rattle.std.specs.List.{list_any}
use Rattle.shard_queue.specs.declared.lane.Entry.TheVariants.{Item, End}
use Rattle.shard_queue.specs.Permits.{WasEmpty, capacity_of, got, producers_of, take_seen}
use Rattle.lane_work.specs.Answering.{is_nobodys}
use Rattle.lane_work.proofs.AnswerLaws.{torn_end}
use Rattle.shared_consumers.specs.SharedConsumer.{SharedConsumer}
use Rattle.shared_consumers.specs.Keeping.{parts_of}
use Rattle.shared_consumers.proofs.KeepLaws.{keeps_next, lane_at, one_inside, torn_copy}
use Rattle.shared_consumers.proofs.shared_consumer.SharedConsumer.step.Goals as goal

pub take_turn-requires-clause-answered : goal.take_turn-requires-clause-answered
take_turn-requires-clause-answered g c = (c.self.invariant.answering (parts_of c.args.delivery.now) c.requires.delivery).answered

pub invariant_of-self : goal.invariant_of-self
invariant_of-self g c =
    let old = c.self.inside.stall in
    let new = c.take_turn.new.stall in
    let d = parts_of c.args.delivery.now in
    let m = d.mailboxes in
    let n = length d.channels in
    let took = c.take_turn.ensures in
    let turned = c.in-Copy.ensures.turned in
    let here = lane_at c.args.lanes.now c.from.result old.shard c.index-lanes-from.result c.from.ensures (c.self.invariant.on_lane c.args.lanes.now c.requires.lanes).there c.index-lanes-from.is in
    keeps_next g.H.LaneGroup.lanes g.H.LaneGroup.delivery c.args.lanes.now d old new c.index-lanes-from.result c.self.inside.torn _ c.requires.lanes c.requires.delivery here c.self.invariant
    took.shard took.permit took.senders took.answered
    (torn_copy m n turned.0 turned.1 (got old.permit) (got new.permit) c.self.inside.torn c.in-Copy.ours turned.2 turned.3 (c.self.invariant.answering d c.requires.delivery).torn)

pub invariant_of-self-in-End : goal.invariant_of-self-in-End
invariant_of-self-in-End g c =
    let old = c.self.inside.stall in
    let new = c.take_turn.new.stall in
    let d = parts_of c.args.delivery.now in
    let m = d.mailboxes in
    let n = length d.channels in
    let took = c.take_turn.ensures in
    let turned = c.in-End.ensures.turned in
    let here = lane_at c.args.lanes.now c.from.result old.shard c.index-lanes-from.result c.from.ensures (c.self.invariant.on_lane c.args.lanes.now c.requires.lanes).there c.index-lanes-from.is in
    keeps_next g.H.LaneGroup.lanes g.H.LaneGroup.delivery c.args.lanes.now d old new c.index-lanes-from.result c.self.inside.torn _ c.requires.lanes c.requires.delivery here c.self.invariant
    took.shard took.permit took.senders took.answered
    ((c.self.invariant.answering d c.requires.delivery).torn ∙ torn_end m n (got old.permit) (got new.permit) turned.0 turned.1)

pub invariant_of-self-in-Empty : goal.invariant_of-self-in-Empty
invariant_of-self-in-Empty g c =
    let old = c.self.inside.stall in
    let new = c.take_turn.new.stall in
    let d = parts_of c.args.delivery.now in
    let m = d.mailboxes in
    let n = length d.channels in
    let took = c.take_turn.ensures in
    let same = c.in-Empty.ensures.turned.0 in
    let here = lane_at c.args.lanes.now c.from.result old.shard c.index-lanes-from.result c.from.ensures (c.self.invariant.on_lane c.args.lanes.now c.requires.lanes).there c.index-lanes-from.is in
    keeps_next g.H.LaneGroup.lanes g.H.LaneGroup.delivery c.args.lanes.now d old new c.index-lanes-from.result c.self.inside.torn _ c.requires.lanes c.requires.delivery here c.self.invariant
    took.shard took.permit took.senders took.answered
    ((c.self.invariant.answering d c.requires.delivery).torn ∙ ap (list_any (is_nobodys m n)) (sym same))

pub returns-in-Copy-clause-took : goal.returns-in-Copy-clause-took
returns-in-Copy-clause-took g c =
    let turned = c.in-Copy.ensures.turned in
    (Item turned.0 turned.1 ∷ [], turned.2 ∙ ap (λ (s : SharedConsumer). s.took ++ Item turned.0 turned.1 ∷ []) c.self.view_is)

pub returns-in-End-clause-took : goal.returns-in-End-clause-took
returns-in-End-clause-took g c =
    let turned = c.in-End.ensures.turned in
    (End turned.0 ∷ [], turned.1 ∙ ap (λ (s : SharedConsumer). s.took ++ End turned.0 ∷ []) c.self.view_is)

pub returns-in-Empty-clause-empty : goal.returns-in-Empty-clause-empty
returns-in-Empty-clause-empty g c now lane is =
    let old = c.self.inside.stall in
    let new = c.take_turn.new.stall in
    let turned = c.in-Empty.ensures.turned in
    let here = lane_at c.args.lanes.now c.from.result old.shard c.index-lanes-from.result c.from.ensures (c.self.invariant.on_lane c.args.lanes.now c.requires.lanes).there c.index-lanes-from.is in
    let same = one_inside (slice_get c.args.lanes.now old.shard) c.index-lanes-from.result lane here (subst (λ n. slice_get c.args.lanes.now n ≡ Some lane) c.take_turn.ensures.shard is) in
    subst (λ l. WasEmpty (producers_of lane) (capacity_of lane) l (take_seen new.permit)) (sym turned.0)
    (subst (λ l. WasEmpty (producers_of lane) (capacity_of lane) (got old.permit) l) (sym turned.1)
    (subst (λ q. WasEmpty (producers_of q) (capacity_of q) (got old.permit) (take_seen old.permit)) same turned.2))

pub take_turn-requires-clause-senders : goal.take_turn-requires-clause-senders
take_turn-requires-clause-senders g c = (c.self.invariant.answering (parts_of c.args.delivery.now) c.requires.delivery).senders
