use Rattle.std.proofs.Common.{rules, ◌≡◌, ◌∙◌, false, true, map, ap, sym, subst, arith, All, List}
use Rattle.std.specs.List.{list_all, list_any}
use Rattle.lane_work.specs.declared.consumer.Consumed.{Consumed}
use Rattle.lane_work.specs.declared.worker.Worked.{Worked}
use Rattle.lane_work.specs.LanePermits.{AreEndedHands}
use Rattle.lane_work.specs.ChannelPermits.{AreReceivers}
use Rattle.reckoning.proofs.Balanced.{at_some}
use Rattle.shard_queue.specs.Reply.{received}
use Rattle.serving_workers.specs.Closing.{GoOn, WasClosed}
use Rattle.serving_workers.specs.declared.accepting.Served.{Served}
use Rattle.house_shared.specs.Crew.{AllAt}
use Rattle.reckoning.specs.Histories.{IsKnownIn}
use Rattle.std.proofs.lemmas.List.Elements.{All-weaker}
use Rattle.reckoning.specs.Shelves.{IsTaught}
use Rattle.reckoning.proofs.Histories.{IsBackedAt, backed_of, taught_later}
use Rattle.serving_workers.specs.inner.Leaving.{HasHeard, is_whole}
use Rattle.serving_workers.proofs.Heard.{backed_each, ended_of, lengths_of, receivers_of}
use Rattle.serving_workers.proofs.Wholes.{both_of, whole_of}
use Rattle.serving_workers.proofs.closing.close_all.Goals as goal

pub spend_house-requires-clause-ended : goal.spend_house-requires-clause-ended
spend_house-requires-clause-ended g c = lengths_of c.args.shared 0 c.hear_all_out-worked.result.items c.hear_all_out-worked.ensures.worked

pub are_recorded-recorded-requires : goal.are_recorded-recorded-requires
are_recorded-recorded-requires g c =
    let before = c.unlock_into-mailboxes.new.front in
    let now = c.learn_all.new.front in
    record { taught = All-weaker (IsTaught before) (IsTaught now) (taught_later before now c.learn_all.ensures.before) c.unlock_into-mailboxes.result.items c.unlock_into-mailboxes.ensures.taught }

pub close_queues-closings-requires-clause-hands : goal.close_queues-closings-requires-clause-hands
close_queues-closings-requires-clause-hands g c =
    let ws = c.learn_all.new.worked.items in
    subst (λ v. AreEndedHands v.items 0 (map (λ (w : Worked _). w.ended.items) ws)) (sym c.remains_of-lanes.ensures.lanes)
    (ended_of c.args.shared 0 ws (subst (AllAt (HasHeard c.args.shared) 0) (sym c.learn_all.ensures.same.0) c.hear_all_out-worked.ensures.worked))

pub close_queues-closings-requires-clause-receivers : goal.close_queues-closings-requires-clause-receivers
close_queues-closings-requires-clause-receivers g c =
    let ws = c.learn_all.new.worked in
    let as_many = c.learn_all.ensures.same.1 in
    let count = c.hear_all_out-worked.ensures.count in
    let same = c.requires.house.channels in
    subst (λ v. AreReceivers v.items (map (λ (w : Worked _). w.receiver) ws.items)) (sym c.remains_of-lanes.ensures.channels)
    (receivers_of c.args.shared 0 ws.items (subst (AllAt (HasHeard c.args.shared) 0) (sym c.learn_all.ensures.same.0) c.hear_all_out-worked.ensures.worked) (omega (arith, as_many, count, same, ws.ok.0)))

pub returns : goal.returns
returns g c =
    let is = c.close_queues-closings.ensures in
    let ws = c.learn_all.new.worked in
    let as_many = c.learn_all.ensures.same.1 in
    let still = c.learn_all.ensures.same.0 in
    let heard_out = subst (AllAt (HasHeard c.args.shared) 0) (sym still) c.hear_all_out-worked.ensures.worked in
    let count = c.hear_all_out-worked.ensures.count in
    let same = c.requires.house.channels in
    let served = c.args.served.items in
    let all : c.deref.result.now ≡ served = search rules in
    let each : c.deref-2.result.now ≡ c.args.dismissed.consumed.items = search rules in
    let heard : c.deref-3.result.now ≡ c.hear_all_out-worked.result.items = search rules in
    let front = c.learn_all.new.front in
    let unlocked = c.unlock_into-mailboxes.result in
    let mailboxes = c.are_recorded-recorded.new.unlocked in
    let told = g.L.Line.told in
    let made = c.finish.ensures in
    both_of c.finish.result made.well made.closes made.rest (WasClosed told c.args.shared served c.args.dismissed) (λ finished well closes rest.
    let sound = c.is_well.ensures well in
    whole_of told c.args.shared served c.args.dismissed ws.items c.remains_of-lanes.result.lanes c.remains_of-lanes.result.channels c.hear_all_out-worked.new.lines.items unlocked mailboxes finished
    (search rules) (subst (λ xs. list_any (λ (s : Served _ _). s.torn) xs ≡ false) all (sym c.is_producer_torn-is_producer_torn.ensures ∙ sound.0))
    (subst (λ xs. list_any (λ (d : Consumed _). d.torn) xs ≡ false) each (sym c.is_shared_consumer_torn-is_shared_consumer_torn.ensures ∙ sound.1))
    c.remains_of-lanes.ensures.lanes c.remains_of-lanes.ensures.channels (ap (λ l. map (λ (w : Worked _). w.ended.items) l) still ∙ c.hear_all_out-worked.ensures.ended)
    (subst (λ l. GoOn (map (λ (s : Served _ _). received s.receiver) served) (map (λ (w : Worked _). received w.receiver) l)) (sym still) c.hear_all_out-worked.ensures.grew)
    (at_some _ _ _ _ closes.0 is.of_lanes) (at_some _ _ _ _ closes.1 is.of_channels)
    (receivers_of c.args.shared 0 ws.items heard_out (omega (arith, as_many, count, same, ws.ok.0)))
    front c.learn_all.ensures.legal
    (backed_of front 0 ws.items
    (subst (AllAt IsBackedAt 0) (sym still) (backed_each c.args.shared 0 c.hear_all_out-worked.result.items c.hear_all_out-worked.ensures.worked
    (subst (λ (xs : List (Worked _)). list_all (λ (w : Worked _). is_whole w.fate) xs ≡ true) heard (sym c.are_quiet-quiet.ensures ∙ sound.2))))
    (subst (All (IsKnownIn front)) (sym still) c.learn_all.ensures.each) c.learn_all.ensures.legal)
    (c.are_recorded-recorded.ensures.recorded sound.3) c.are_recorded-recorded.ensures.same.0 (search rules) c.hear_all_out-worked.ensures.lines rest)
