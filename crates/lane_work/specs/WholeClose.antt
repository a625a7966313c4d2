-- When the lanes of a house can be closed, and its reply channels.
use Rattle.std.specs.Prelude.{List, [], ◌∷◌}
use Rattle.delivery_token.specs.declared.Job.{Job}
use Rattle.delivery_token.specs.declared.log.Noted.{Noted}
use Rattle.shard_queue.specs.Closing.{IsAll}
use Rattle.shard_queue.specs.Permits.{ConsumerPermit, Ended, ShardQueue, ended_number, got, producers_of}
use Rattle.shard_queue.specs.Reply.{ReceiverPermit, ReplyChannel, SenderEnded, received, sender_ended_number, senders_of}
use Rattle.lane_work.specs.LanePermits.{IsTorn}
use Rattle.lane_work.specs.ChannelPermits.{AreChannelsTorn}

-- on each lane the end of each producer was taken, and what is left of the producer's permit is there
abbrev pub HaveAllEnds : List (ShardQueue Job) → List (List (Ended Job)) → List (ConsumerPermit Job) → Type 0
HaveAllEnds [] rows permits = Unit {0}
HaveAllEnds (lane ∷ lanes) [] permits = ⊥
HaveAllEnds (lane ∷ lanes) (row ∷ rows) [] = ⊥
HaveAllEnds (lane ∷ lanes) (row ∷ rows) (permit ∷ permits) =
    IsAll ended_number (producers_of lane) row (got permit) × HaveAllEnds lanes rows permits

-- then no lane is torn, so that whoever closes them is told what was taken
abbrev pub WholeLanesClose : Type 0
WholeLanesClose = (lanes : List (ShardQueue Job)) (rows : List (List (Ended Job))) (permits : List (ConsumerPermit Job))
    → HaveAllEnds lanes rows permits → IsTorn lanes rows permits → ⊥

-- the same of reply channels and their senders
abbrev pub HaveAllSendersEnds : List (ReplyChannel Noted) → List (List (SenderEnded Noted)) → List (ReceiverPermit Noted) → Type 0
HaveAllSendersEnds [] rows permits = Unit {0}
HaveAllSendersEnds (channel ∷ channels) [] permits = ⊥
HaveAllSendersEnds (channel ∷ channels) (row ∷ rows) [] = ⊥
HaveAllSendersEnds (channel ∷ channels) (row ∷ rows) (permit ∷ permits) =
    IsAll sender_ended_number (senders_of channel) row (received permit) × HaveAllSendersEnds channels rows permits

abbrev pub WholeChannelsClose : Type 0
WholeChannelsClose = (channels : List (ReplyChannel Noted)) (rows : List (List (SenderEnded Noted))) (permits : List (ReceiverPermit Noted))
    → HaveAllSendersEnds channels rows permits → AreChannelsTorn channels rows permits → ⊥
