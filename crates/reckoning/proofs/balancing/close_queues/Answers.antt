use Rattle.std.proofs.Common.{◌∙◌, sym, subst, MatchOption, length, map, vec_len}
use Rattle.lane_work.specs.declared.worker.Worked.{Worked}
use Rattle.lane_work.specs.declared.consumer.Consumed.{Consumed}
use Rattle.lane_work.specs.LanePermits.{AreEndedHands}
use Rattle.lane_work.specs.ChannelPermits.{AreReceivers, AreSenderEndedHands}
use Rattle.reckoning.specs.Closing.{AreChannelsClosedWith, AreChannelsTornWith, AreClosedWith, AreTornWith}
use Rattle.reckoning.proofs.Balanced.{mapped_length, rooms_for}
use Rattle.reckoning.proofs.balancing.close_queues.Goals as goal

pub close_all-lanes-requires-clause-lists : goal.close_all-lanes-requires-clause-lists
close_all-lanes-requires-clause-lists g c =
    let hands = c.gather_all-workers.result.workers.hands in
    rooms_for c.gather_all-workers.result.lists (length c.args.consumed.items) (vec_len c.args.lanes) (length c.args.worked.items) (vec_len hands)
    (sym c.args.consumed.ok.0 ∙ c.requires.counts.1)
    (sym (hands.ok.0 ∙ mapped_length (λ h. h.items) (λ (w : Worked _). w.ended.items) hands.items c.args.worked.items c.gather_all-workers.ensures.of_workers.hands))
    c.gather_all-workers.ensures.lists

pub close_all-channels-requires-clause-lists : goal.close_all-channels-requires-clause-lists
close_all-channels-requires-clause-lists g c =
    let hands = c.gather_all-workers.result.consumers.hands in
    rooms_for c.gather_all-workers.result.sender_lists (length c.args.worked.items) (vec_len c.args.channels) (length c.args.consumed.items) (vec_len hands)
    (sym c.args.worked.ok.0 ∙ c.requires.counts.0)
    (sym (hands.ok.0 ∙ mapped_length (λ h. h.items) (λ d. d.senders.items) hands.items c.args.consumed.items c.gather_all-workers.ensures.of_consumers.hands))
    c.gather_all-workers.ensures.sender_lists

pub close_all-lanes-requires-clause-hands : goal.close_all-lanes-requires-clause-hands
close_all-lanes-requires-clause-hands g c = subst (AreEndedHands c.args.lanes.items 0) (sym c.gather_all-workers.ensures.of_workers.hands) c.requires.hands

pub close_all-channels-requires-clause-hands : goal.close_all-channels-requires-clause-hands
close_all-channels-requires-clause-hands g c = subst (AreSenderEndedHands c.args.channels.items 0) (sym c.gather_all-workers.ensures.of_consumers.hands) c.requires.senders

pub close_all-channels-requires-clause-consumers : goal.close_all-channels-requires-clause-consumers
close_all-channels-requires-clause-consumers g c = subst (AreReceivers c.args.channels.items) (sym c.gather_all-workers.ensures.of_workers.receivers) c.requires.receivers

pub returns : goal.returns
returns g c =
    let hands = c.gather_all-workers.ensures.of_workers.hands in
    let sender_hands = c.gather_all-workers.ensures.of_consumers.hands in
    let permits = c.gather_all-workers.ensures.of_consumers.permits in
    let receivers = c.gather_all-workers.ensures.of_workers.receivers in
    let lanes = c.args.lanes.items in
    let channels = c.args.channels.items in
    record {
      of_lanes = subst (λ hs. MatchOption c.close_all-lanes.result (AreTornWith lanes hs (map (λ (d : Consumed _). d.permit) c.args.consumed.items))
          (λ cs. AreClosedWith lanes hs (map (λ (d : Consumed _). d.permit) c.args.consumed.items) cs.items)) hands
          (subst (λ ss. MatchOption c.close_all-lanes.result (AreTornWith lanes (map (λ h. h.items) c.gather_all-workers.result.workers.hands.items) ss)
          (λ cs. AreClosedWith lanes (map (λ h. h.items) c.gather_all-workers.result.workers.hands.items) ss cs.items)) permits c.close_all-lanes.ensures);
      of_channels = subst (λ hs. MatchOption c.close_all-channels.result (AreChannelsTornWith channels hs (map (λ (w : Worked _). w.receiver) c.args.worked.items))
          (λ cs. AreChannelsClosedWith channels hs (map (λ (w : Worked _). w.receiver) c.args.worked.items) cs.items)) sender_hands
          (subst (λ rs. MatchOption c.close_all-channels.result (AreChannelsTornWith channels (map (λ h. h.items) c.gather_all-workers.result.consumers.hands.items) rs)
          (λ cs. AreChannelsClosedWith channels (map (λ h. h.items) c.gather_all-workers.result.consumers.hands.items) rs cs.items)) receivers c.close_all-channels.ensures);
      replies = c.gather_all-workers.ensures.of_workers.replies;
      logs = c.gather_all-workers.ensures.of_workers.logs;
      taken = c.gather_all-workers.ensures.of_consumers.taken;
      worst = c.gather_all-workers.ensures.worst;
    }
