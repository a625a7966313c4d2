-- Where all have ended, and each end was taken, nothing is missing.
use Rattle.std.proofs.Common.{◌∙◌, ℕ, inl, inr, List, ap, sym}
use Rattle.std.proofs.lemmas.Bool.{false≢true}
use Rattle.delivery_token.specs.declared.Job.{Job}
use Rattle.delivery_token.specs.declared.log.Noted.{Noted}
use Rattle.shard_queue.specs.declared.lane.Entry.{Entry}
use Rattle.shard_queue.specs.Closing.{IsAll, IsNotAll}
use Rattle.shard_queue.specs.Permits.{ConsumerPermit, Ended, ShardQueue, ended_number, got, producers_of}
use Rattle.shard_queue.specs.Reply.{ReceiverPermit, ReplyChannel, SenderEnded, received, sender_ended_number, senders_of}
use Rattle.lane_work.specs.ChannelPermits.{AreChannelsTorn}
use Rattle.lane_work.specs.LanePermits.{IsTorn}
use Rattle.lane_work.specs.SharedLanes.{here, later}
use Rattle.lane_work.specs.WholeClose.{HaveAllEnds, HaveAllSendersEnds, WholeChannelsClose, WholeLanesClose}

nothing_lacks : {E T : Type 0} (number : E → ℕ) (producers : ℕ) (ended : List E) (got : List (Entry T)) → IsAll number producers ended got → IsNotAll number producers ended got → ⊥
nothing_lacks number producers ended got all (p, under, inl missing) =
    let there = (all p under).0 in
    missing there.0 there.1 there.2 (ap number there.3 ∙ there.4)
nothing_lacks number producers ended got all (p, under, inr untaken) = false≢true (sym untaken ∙ (all p under).1)

lane_lacks : {lanes : List (ShardQueue Job)} {rows : List (List (Ended Job))} {permits : List (ConsumerPermit Job)} → IsTorn lanes rows permits → HaveAllEnds lanes rows permits → ⊥
lane_lacks (here lane row permit lacks) all = nothing_lacks ended_number (producers_of lane) row (got permit) all.0 lacks
lane_lacks (later lane row permit torn) all = lane_lacks torn all.1

channel_lacks : {channels : List (ReplyChannel Noted)} {rows : List (List (SenderEnded Noted))} {permits : List (ReceiverPermit Noted)} → AreChannelsTorn channels rows permits
    → HaveAllSendersEnds channels rows permits → ⊥
channel_lacks (here channel row permit lacks) all = nothing_lacks sender_ended_number (senders_of channel) row (received permit) all.0 lacks
channel_lacks (later channel row permit torn) all = channel_lacks torn all.1

pub lanes_close : WholeLanesClose
lanes_close lanes rows permits all torn = lane_lacks torn all

pub channels_close : WholeChannelsClose
channels_close channels rows permits all torn = channel_lacks torn all
