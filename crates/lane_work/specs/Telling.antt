-- What closed lanes tell of the producers, and closed reply channels of the senders.
use Rattle.std.specs.Prelude.{◌≡◌, ℕ, List, map, length, All}
use Rattle.delivery_token.specs.declared.Job.{Job}
use Rattle.delivery_token.specs.declared.log.Noted.{Noted}
use Rattle.shard_queue.specs.declared.lane.Entry.{Entry}
use Rattle.shard_queue.specs.Permits.{ShardQueue}
use Rattle.shard_queue.specs.Permits.{Ended}
use Rattle.shard_queue.specs.Permits.{ConsumerPermit}
use Rattle.shard_queue.specs.Permits.{Closed}
use Rattle.shard_queue.specs.Reply.{ReplyChannel}
use Rattle.shard_queue.specs.Reply.{SenderEnded}
use Rattle.shard_queue.specs.Reply.{ReceiverPermit}
use Rattle.shard_queue.specs.Reply.{ReplyClosed}
use Rattle.shard_queue.specs.Reply.{received, reply_history, said_on, senders_of}
use Rattle.shard_queue.specs.Closing.{IsWhole}
use Rattle.shard_queue.specs.Lane.{of}
use Rattle.shard_queue.specs.Permits.{said, got, history, producers_of, capacity_of}
use Rattle.lane_work.specs.Account.{Account, Premises}
use Rattle.lane_work.specs.Permits.{AreEnded, AreSendersEnded}
use Rattle.lane_work.specs.SharedLanes.{AreIn}
use Rattle.lane_work.specs.LanePermits.{AreClosed}
use Rattle.lane_work.specs.ChannelPermits.{AreChannelsClosed}

-- what a producer has said, lane by lane, is what the histories have of it
abbrev pub SaidIsHistory : Type 0
SaidIsHistory = (lanes : List (ShardQueue Job)) (rows : List (List (Ended Job))) (permits : List (ConsumerPermit Job)) (closed : List (Closed Job))
    → AreClosed lanes rows permits closed
    → (p : ℕ) (ended : List (Ended Job)) → AreEnded lanes p ended → AreIn ended rows → map said ended ≡ map (of p) (map history closed)

-- so a worker's account is one of the histories
abbrev pub AccountsMeet : Type 0
AccountsMeet = (lanes : List (ShardQueue Job)) (rows : List (List (Ended Job))) (permits : List (ConsumerPermit Job)) (closed : List (Closed Job))
    → AreClosed lanes rows permits closed
    → (p : ℕ) (ended : List (Ended Job)) → AreEnded lanes p ended → AreIn ended rows
    → (house : Premises) (connections replies : List (List ℕ)) (notes : List Noted) (heard : List (Entry Noted))
    → Account house p connections replies notes heard (map said ended)
    → Account house p connections replies notes heard (map (of p) (map history closed))

-- there is a history for each lane, it is what the lane's consumer has taken, and it is whole
abbrev pub LanesAreWhole : Type 0
LanesAreWhole = (lanes : List (ShardQueue Job)) (rows : List (List (Ended Job))) (permits : List (ConsumerPermit Job)) (closed : List (Closed Job))
    → AreClosed lanes rows permits closed
    → (length closed ≡ length lanes) × (map history closed ≡ map got permits)
    × ((producers depth : ℕ) → All (λ q. (capacity_of q ≡ depth) × (producers_of q ≡ producers)) lanes
    → All (λ c. IsWhole producers depth (history c)) closed)

-- what a sender has said, channel by channel, is what the histories have of it
abbrev pub SaidOnIsHistory : Type 0
SaidOnIsHistory = (channels : List (ReplyChannel Noted)) (rows : List (List (SenderEnded Noted))) (permits : List (ReceiverPermit Noted))
    (closed : List (ReplyClosed Noted)) → AreChannelsClosed channels rows permits closed
    → (s : ℕ) (ended : List (SenderEnded Noted)) → AreSendersEnded channels s ended → AreIn ended rows
    → map said_on ended ≡ map (of s) (map reply_history closed)

-- there is a history for each channel, it is what the channel's receiver has received, and it is whole: nothing waits, so it needs no room
abbrev pub ChannelsAreWhole : Type 0
ChannelsAreWhole = (channels : List (ReplyChannel Noted)) (rows : List (List (SenderEnded Noted))) (permits : List (ReceiverPermit Noted))
    (closed : List (ReplyClosed Noted)) → AreChannelsClosed channels rows permits closed
    → (length closed ≡ length channels) × (map reply_history closed ≡ map received permits)
    × ((senders : ℕ) → All (λ q. senders_of q ≡ senders) channels
    → All (λ c. IsWhole senders 0 (reply_history c)) closed)
