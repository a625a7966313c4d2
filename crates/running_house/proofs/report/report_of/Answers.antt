use Rattle.std.proofs.Common.{rules, ◌==◌, ◌∙◌, All, map, length, refl, sym, ap, subst, arith}
use Rattle.std.proofs.lemmas.List.{length-map}
use Rattle.lane_work.specs.Consuming.{items_of}
use Rattle.lane_work.specs.declared.consumer.Consumed.{Consumed}
use Rattle.lane_work.specs.declared.worker.Worked.{Worked}
use Rattle.lane_work.specs.LanePermits as rows
use Rattle.lane_work.specs.ChannelPermits.{AreReceivers, AreSenderEndedHands}
use Rattle.running_house.proofs.Accounts.{ended_of, receivers_of}
use Rattle.reckoning.proofs.Parts.{consumers_of, sender_hands_of}
use Rattle.house_shared.specs.Crew.{AllAt}
use Rattle.house_history.specs.Legal.{Legal}
use Rattle.reckoning.specs.Histories.{IsKnownIn}
use Rattle.reckoning.specs.Shelves.{HasAccepted, IsTaught}
use Rattle.reckoning.proofs.Histories.{taught_later}
use Rattle.std.proofs.lemmas.List.Elements.{All-weaker}
use Rattle.running_house.specs.Produced.{IsProduceOf}
use Rattle.running_house.specs.Lists.{ListsAgree}
use Rattle.running_house.specs.Walk.{ListsMet}
use Rattle.reckoning.specs.Balancing.{IsBalanced}
use Rattle.running_house.specs.Agree.{accepted_of, notes_of, texts_of}
use Rattle.running_house.specs.Refusals.{MayCome}
use Rattle.running_house.proofs.Moves.{both, if_ok}
use Rattle.running_house.proofs.Reports.{agrees}
use Rattle.running_house.proofs.report.report_of.Goals as goal

pub balance-requires-clause-hands : goal.balance-requires-clause-hands
balance-requires-clause-hands g c =
    let ws = c.learn_all.new.worked in
    subst (λ v. rows.AreEndedHands v.items 0 (map (λ (w : Worked _). w.ended.items) ws.items)) (sym c.remains_of-directory.ensures.lanes)
    (ended_of c.args.shared c.args.plan.now.workers.items c.args.plan.now.sessions.items 0 ws.items
    (subst (AllAt (IsProduceOf c.args.shared c.args.plan.now.workers.items c.args.plan.now.sessions.items) 0) (sym c.learn_all.ensures.same.0) c.requires.worked))

pub balance-requires-clause-receivers : goal.balance-requires-clause-receivers
balance-requires-clause-receivers g c =
    let ws = c.learn_all.new.worked in
    let as_many = c.learn_all.ensures.same.1 in
    let channels = c.requires.shared.house.channels in
    let count = c.requires.all.worked in
    let ok = ws.ok.0 in
    subst (λ v. AreReceivers v.items (map (λ (w : Worked _). w.receiver) ws.items)) (sym c.remains_of-directory.ensures.channels)
    (receivers_of c.args.shared c.args.plan.now.workers.items c.args.plan.now.sessions.items 0 ws.items
    (subst (AllAt (IsProduceOf c.args.shared c.args.plan.now.workers.items c.args.plan.now.sessions.items) 0) (sym c.learn_all.ensures.same.0) c.requires.worked) (omega (arith, as_many, count, ok, channels)))

pub balance-requires-clause-consumers : goal.balance-requires-clause-consumers
balance-requires-clause-consumers g c =
    let cs = c.args.ran.consumed in
    let count = c.requires.all.consumed in
    let ok = cs.ok.0 in
    subst (λ v. rows.AreConsumers v.items (map (λ (d : Consumed _). d.permit) cs.items)) (sym c.remains_of-directory.ensures.lanes)
    (consumers_of c.args.shared 0 cs.items c.requires.consumed (omega (arith, count, ok)))

pub balance-requires-clause-senders : goal.balance-requires-clause-senders
balance-requires-clause-senders g c =
    let cs = c.args.ran.consumed in
    let count = c.requires.all.consumed in
    let ok = cs.ok.0 in
    subst (λ v. AreSenderEndedHands v.items 0 (map (λ (d : Consumed _). d.senders.items) cs.items)) (sym c.remains_of-directory.ensures.channels)
    (sender_hands_of c.args.shared 0 cs.items c.requires.consumed (omega (arith, count, ok)))

pub report_on-requires-clause-taught : goal.report_on-requires-clause-taught
report_on-requires-clause-taught g c =
    let before = c.unlock_all-unlocked.new.front in
    let now = c.learn_all.new.front in
    let all : All (IsTaught before) c.in_ok-unlocked.field-0.items = search rules in
    All-weaker (IsTaught before) (IsTaught now) (taught_later before now c.learn_all.ensures.before) c.in_ok-unlocked.field-0.items all

pub returns-clause-agrees : goal.returns-clause-agrees
returns-clause-agrees g c =
    let ws = c.learn_all.new.worked in
    let still = c.learn_all.ensures.same.0 in
    let as_many = c.learn_all.ensures.same.1 in
    let worked = subst (AllAt (IsProduceOf c.args.shared c.args.plan.now.workers.items c.args.plan.now.sessions.items) 0) (sym still) c.requires.worked in
    let known = subst (All (IsKnownIn c.learn_all.new.front)) (sym still) c.learn_all.ensures.each in
    let cs = c.args.ran.consumed in
    let books = c.in_ok-books.books in
    let whole = length c.args.plan.now.sessions.items == 0 in
    let balanced = subst (λ v. IsBalanced v.items c.args.shared.delivery.channels.items ws.items cs.items books) c.remains_of-directory.ensures.lanes
    (subst (λ v. IsBalanced c.remains_of-directory.result.lanes.items v.items ws.items cs.items books) c.remains_of-directory.ensures.channels c.in_ok-books.ensures.balanced) in
    let producers = sym ws.ok.0 ∙ (as_many ∙ c.requires.all.worked) in
    let laid = ap length balanced.replies ∙ length-map ws.items (λ (w : Worked _). w.replies) in
    if_ok c.report_on.result (both _ _ c.report_on.result c.report_on.ensures.lists (both _ _ c.report_on.result c.report_on.ensures.met (both _ _ c.report_on.result c.report_on.ensures.numbered
    (both _ _ c.report_on.result c.report_on.ensures.refusals c.report_on.ensures.accepted)))) c.report_on.ensures.parts
    (λ r lists parts. agrees c.args.plan.now c.args.shared c.requires.shared ws.items cs.items worked c.requires.consumed
    producers (sym cs.ok.0 ∙ c.requires.all.consumed) books balanced
    r parts.0 parts.1 parts.2 parts.3 parts.4
    (let counted = parts.5 in omega (arith, counted, laid, producers, r.sessions.ok.0, books.replies.ok.0))
    whole refl
    (subst (λ d. ListsAgree d whole (notes_of r) (map (λ t. items_of t.items) books.taken.items) (accepted_of r) (texts_of r)) c.remains_of-directory.ensures.directory lists.0)
    (subst (λ d. ListsMet d whole (notes_of r) (map (λ t. items_of t.items) books.taken.items) (accepted_of r) (texts_of r)) c.remains_of-directory.ensures.directory lists.1.0)
    lists.1.1.0
    (subst (λ d. All (λ log. All (MayCome c.args.plan.now.config d (accepted_of r) (map (λ t. t.items) books.taken.items)) log.notes) r.logs.items) c.remains_of-directory.ensures.directory lists.1.1.1.0)
    (subst (λ h. All (IsKnownIn h) ws.items) (sym parts.6) known) (subst Legal (sym parts.6) c.learn_all.ensures.legal)
    (subst (λ h. AllAt (HasAccepted h) 0 r.accepted.items) (sym parts.6) lists.1.1.1.1))
