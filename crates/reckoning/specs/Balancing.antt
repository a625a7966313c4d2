-- What is known when all queues were closed with what the threads left.
use Rattle.std.specs.Prelude.{◌≡◌, ◌≤◌, ◌⊎◌, List, [], All, MatchOption, length, map, Option, Some, None, vec_capacity}
use Rattle.delivery_token.specs.declared.Job.{Job}
use Rattle.delivery_token.specs.declared.log.Noted.{Noted}
use Rattle.shard_queue.specs.Reply.{ReplyChannel}
use Rattle.shard_queue.specs.Permits.{ShardQueue}
use Rattle.lane_work.specs.declared.consumer.Consumed.{Consumed}
use Rattle.lane_work.specs.declared.worker.Worked.{Worked}
use Rattle.lane_work.specs.Rooms.{AreRooms}
use Rattle.reckoning.specs.Closing.{AreChannelsClosedWith, AreChannelsTornWith, AreClosedWith, AreTornWith}
use Rattle.reckoning.specs.Gathered.{AreConsumers, AreWorkers, fault_of_consumer, fault_of_fate, graver, gravest}
use Rattle.reckoning.specs.declared.gather.Fault.{Fault}
use Rattle.reckoning.specs.declared.gather.Fault.TheVariants.{Torn}
use Rattle.reckoning.specs.declared.balancing.Books.{Books}
use Rattle.reckoning.specs.declared.balancing.Closings.{Closings}
use Rattle.reckoning.specs.declared.balancing.Gathered.{Gathered}

-- ---- faults

-- the gravest that a producer or a consumer had
abbrev pub worst_of : {B : Type 0} → List (Worked B) → List (Consumed B) → Option Fault
worst_of producers consumers = graver (gravest None (map (λ w. fault_of_fate w.fate) producers)) (gravest None (map fault_of_consumer consumers))

-- what the threads left, taken apart, with room for what comes of the queues
pub record IsGathered {B : Type 0} (producers : List (Worked B)) (consumers : List (Consumed B)) (g : Gathered B) : Type 0 where
  pub of_workers : AreWorkers producers g.workers
  pub of_consumers : AreConsumers consumers g.consumers
  pub lists : AreRooms (length consumers) (length producers) g.lists
  pub sender_lists : AreRooms (length producers) (length consumers) g.sender_lists
  pub lanes : (g.closed.lanes.items ≡ []) × (length consumers ≤ vec_capacity g.closed.lanes)
  pub channels : (g.closed.channels.items ≡ []) × (length producers ≤ vec_capacity g.closed.channels)
  pub worst : g.worst ≡ worst_of producers consumers

-- What came of each queue, with what all threads left of their permits; the rest of what they left, in their order; and the gravest fault.
pub record IsClosing {B : Type 0} (lanes : List (ShardQueue Job)) (channels : List (ReplyChannel Noted)) (producers : List (Worked B))
    (consumers : List (Consumed B)) (c : Closings B) : Type 0 where
  pub of_lanes : MatchOption c.lanes (AreTornWith lanes (map (λ w. w.ended.items) producers) (map (λ d. d.permit) consumers))
      (λ closed. AreClosedWith lanes (map (λ w. w.ended.items) producers) (map (λ d. d.permit) consumers) closed.items)
  pub of_channels : MatchOption c.channels (AreChannelsTornWith channels (map (λ d. d.senders.items) consumers) (map (λ w. w.receiver) producers))
      (λ closed. AreChannelsClosedWith channels (map (λ d. d.senders.items) consumers) (map (λ w. w.receiver) producers) closed.items)
  pub replies : c.replies.items ≡ map (λ w. w.replies) producers
  pub logs : c.logs.items ≡ map (λ w. w.log) producers
  pub taken : c.taken.items ≡ map (λ d. d.taken) consumers
  pub worst : c.worst ≡ worst_of producers consumers

-- ---- the books

-- No thread had a fault. Each queue was closed, with what all threads left of their permits; the rest of what they left is in the books, in their
-- order.
pub record IsBalanced {B : Type 0} (lanes : List (ShardQueue Job)) (channels : List (ReplyChannel Noted)) (producers : List (Worked B))
    (consumers : List (Consumed B)) (books : Books B) : Type 0 where
  pub fates : All (λ w. fault_of_fate w.fate ≡ None) producers
  pub services : All (λ c. fault_of_consumer c ≡ None) consumers
  pub replies : books.replies.items ≡ map (λ w. w.replies) producers
  pub logs : books.logs.items ≡ map (λ w. w.log) producers
  pub taken : books.taken.items ≡ map (λ c. c.taken) consumers
  pub lanes_closed : AreClosedWith lanes (map (λ w. w.ended.items) producers) (map (λ c. c.permit) consumers) books.closed.lanes.items
  pub channels_closed : AreChannelsClosedWith channels (map (λ c. c.senders.items) consumers)
      (map (λ w. w.receiver) producers) books.closed.channels.items

-- There was this fault, the gravest; or there was none, and some queue couldn't be closed.
abbrev pub IsWhyNot : {B : Type 0} → List (ShardQueue Job) → List (ReplyChannel Noted) → List (Worked B) → List (Consumed B) → Fault → Type 0
IsWhyNot lanes channels producers consumers fault =
    (worst_of producers consumers ≡ Some fault)
    ⊎ ((worst_of producers consumers ≡ None) × (fault ≡ Torn)
    × (AreTornWith lanes (map (λ w. w.ended.items) producers) (map (λ c. c.permit) consumers)
    ⊎ AreChannelsTornWith channels (map (λ c. c.senders.items) consumers) (map (λ w. w.receiver) producers)))
