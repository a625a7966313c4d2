use Rattle.std.proofs.Common.{arith, map, subst}
use Rattle.lane_work.specs.LanePermits.{AreHands}
use Rattle.lane_work.specs.ChannelPermits.{AreSenderHands}
use Rattle.lane_work.proofs.RowLaws.{consumers_length}
use Rattle.shard_queue.specs.Permits as queues
use Rattle.shard_queue.specs.Reply as replies
use Rattle.house_shared.proofs.dealing.deal_out.Goals as goal

pub set_stands-stands-requires-clause-consumers : goal.set_stands-stands-requires-clause-consumers
set_stands-stands-requires-clause-consumers g c =
    let permits = c.args.undealt.consumers in
    let are = c.requires.undealt.consumers in
    let same = consumers_length queues.view queues.is_of c.args.shared.now.intake.lanes.items permits.items are in
    (let count = c.requires.lanes.0 in omega (arith, same, count, permits.ok.0), are)

pub set_posts-posts-requires-clause-receivers : goal.set_posts-posts-requires-clause-receivers
set_posts-posts-requires-clause-receivers g c =
    let permits = c.args.undealt.receivers in
    let are = c.requires.undealt.receivers in
    let same = consumers_length replies.view replies.is_of c.args.shared.now.delivery.channels.items permits.items are in
    (let count = c.requires.channels.0 in omega (arith, same, count, permits.ok.0), are)

pub set_stands-stands-requires-clause-hands : goal.set_stands-stands-requires-clause-hands
set_stands-stands-requires-clause-hands g c =
    let dealt = c.deal_all-sender_hands in
    (dealt.ensures.count, subst (λ channels. AreSenderHands channels 0 (map (λ v. v.items) dealt.result.items)) c.deref-2.ensures.value dealt.ensures.hands)

pub set_posts-posts-requires-clause-hands : goal.set_posts-posts-requires-clause-hands
set_posts-posts-requires-clause-hands g c =
    let dealt = c.deal_all-hands in
    (dealt.ensures.count, subst (λ lanes. AreHands lanes 0 (map (λ v. v.items) dealt.result.items)) c.deref.ensures.value dealt.ensures.hands)
