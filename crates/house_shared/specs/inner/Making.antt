-- The parts of a house before they are put together.
use Rattle.std.specs.Prelude.{◌≡◌, ◌≤◌, ◌*◌, ℕ, List, [], All, length, map, vec_len, vec_capacity}
use Rattle.delivery_token.specs.declared.Job.{Job}
use Rattle.delivery_token.specs.declared.log.Noted.{Noted}
use Rattle.envelope.specs.Names.{Directory}
use Rattle.lane_work.specs.Rooms.{AreHandRooms, ArePermitRooms, AreRooms}
use Rattle.lane_work.specs.LanePermits.{AreConsumers, Rows}
use Rattle.lane_work.specs.ChannelPermits.{AreReceivers, SenderRows}
use Rattle.shard_queue.specs.Permits.{ShardQueue, capacity_of, got, producers_of}
use Rattle.shard_queue.specs.Reply.{ReplyChannel, received, senders_of}
use Rattle.shard_queue.specs.Reply as replies
use Rattle.shard_queue.specs.Permits as queues
use Rattle.shard_queue.specs.SharedLane.{taken}
use Rattle.shard_queue.specs.declared.shared.View.{View}
use Rattle.lane_work.specs.SharedLanes as lanes
use Rattle.house_shared.specs.Opening.{AreNoSpares, AreSpares}
use Rattle.house_shared.specs.declared.bells.Bells.{Bells}
use Rattle.house_shared.specs.declared.dealing.Undealt.{Undealt}
use Rattle.house_shared.specs.declared.fittings.Fittings.{Fittings}
use Rattle.house_shared.specs.declared.fittings.Interior.{Interior}
use Rattle.house_shared.specs.declared.fittings.Papers.{Papers}
use Rattle.house_shared.specs.declared.opening.Sizes.{Sizes}
use Rattle.house_shared.specs.declared.seating.Seating.{Seating}
use Rattle.house_shared.specs.declared.stock.CrewLists.{CrewLists}
use Rattle.house_shared.specs.declared.stock.Lists.{Lists}
use Rattle.house_shared.specs.declared.stock.Stock.{Stock}
use Rattle.lane_work.specs.declared.lanes.Lanes.{Lanes}

-- a bell for each consumer, both ends of it, and for each mailbox a list of its sessions' bells
pub record AreBells (directory : Directory) (b : Bells) : Type 0 where
  pub parkers : vec_len b.parkers ≡ directory.shards
  pub consumers : vec_len b.consumers ≡ directory.shards
  pub mailboxes : vec_len b.sessions ≡ length directory.homes

-- nothing lies there, and there is room for what so many producers and consumers leave
pub record ArePapers {B : Type 0} (producers shards : ℕ) (p : Papers B) : Type 0 where
  pub replies : (p.replies.items ≡ []) × (producers ≤ vec_capacity p.replies)
  pub logs : (p.logs.items ≡ []) × (producers ≤ vec_capacity p.logs)
  pub taken : (p.taken.items ≡ []) × (shards ≤ vec_capacity p.taken)
  pub lanes : (p.lanes.items ≡ []) × (shards ≤ vec_capacity p.lanes)
  pub channels : (p.channels.items ≡ []) × (producers ≤ vec_capacity p.channels)

-- what the shared state is made of beside the queues, for a house with this directory and of these sizes
pub record IsLaneGroup {B : Type 0} (directory : Directory) (sizes : Sizes) (h : Interior B) : Type 0 where
  pub host : h.host.items ≡ sizes.host.now
  pub closings : map (λ c. c.items) h.closings.items ≡ map (λ c. c.items) sizes.closings.now
  pub mailboxes : vec_len h.mailboxes ≡ length directory.homes
  pub consumers : vec_len h.consumers ≡ directory.shards
  pub sessions : vec_len h.sessions ≡ length directory.homes

-- what may be let go of it
pub record AreFittings {B : Type 0} (directory : Directory) (sizes : Sizes) (f : Fittings B) : Type 0 where
  pub interior : IsLaneGroup directory sizes f.interior
  pub parkers : vec_len f.parkers ≡ directory.shards
  pub papers : ArePapers sizes.producers directory.shards f.papers

-- nothing is in the lists
pub record AreEmptyLists {B : Type 0} (l : Lists B) : Type 0 where
  pub stands : l.crew.stands.items ≡ []
  pub posts : l.crew.posts.items ≡ []
  pub consumed : l.crew.consumed.items ≡ []
  pub worked : l.crew.worked.items ≡ []
  pub unmanned : l.crew.unmanned.items ≡ []
  pub consumers : l.ends.consumers.items ≡ []
  pub receivers : l.ends.receivers.items ≡ []
  pub spares : AreNoSpares l.ends.spares

-- nothing is there, and there is room for what so many producers and consumers have to put there
pub record AreCrewLists {B : Type 0} (producers shards : ℕ) (l : CrewLists B) : Type 0 where
  pub stands : (l.stands.items ≡ []) × (shards ≤ vec_capacity l.stands)
  pub posts : (l.posts.items ≡ []) × (producers ≤ vec_capacity l.posts)
  pub consumed : (l.consumed.items ≡ []) × (shards ≤ vec_capacity l.consumed)
  pub worked : (l.worked.items ≡ []) × (producers ≤ vec_capacity l.worked)
  pub unmanned : (l.unmanned.items ≡ []) × (producers ≤ vec_capacity l.unmanned)

pub record AreLists {B : Type 0} (producers shards : ℕ) (l : Lists B) : Type 0 where
  pub empty : AreEmptyLists l
  pub crew : AreCrewLists producers shards l.crew
  pub consumers : (l.ends.consumers.items ≡ []) × (shards ≤ vec_capacity l.ends.consumers)
  pub receivers : (l.ends.receivers.items ≡ []) × (producers ≤ vec_capacity l.ends.receivers)
  pub spares : AreSpares (producers * shards) l.ends.spares

-- lanes with all their permits, which have put and taken nothing
pub record AreNewLanes {T C I P : Type 0} (view : P → View T) (is_of : C → P → Type 0) (l : Lanes C I P) : Type 0 where
  pub permits : lanes.Rows view is_of l.lanes.items 0 (map (λ v. v.items) l.permits.items)
  pub consumers : lanes.AreConsumers view is_of l.lanes.items l.consumers.items
  pub fresh : All (λ s. taken view s ≡ []) l.consumers.items

-- all of a house that can't be let go
pub record AreStock {B : Type 0} (producers shards depth : ℕ) (s : Stock B) : Type 0 where
  pub of_producers : ArePermitRooms producers shards s.rooms.producers
  pub of_consumers : ArePermitRooms shards producers s.rooms.consumers
  pub lists : AreLists producers shards s.lists
  pub lanes : (vec_len s.lanes.lanes ≡ shards)
      × All (λ q. (capacity_of q ≡ depth) × (producers_of q ≡ producers)) s.lanes.lanes.items
  pub of_lanes : AreNewLanes queues.view queues.is_of s.lanes
  pub channels : (vec_len s.channels.lanes ≡ producers) × All (λ q. senders_of q ≡ shards) s.channels.lanes.items
  pub of_channels : AreNewLanes replies.view replies.is_of s.channels

-- no seat was dealt yet, and there are tickets for 256 of them
abbrev pub IsWholeSeating : {B : Type 0} → Seating B → Type 0
IsWholeSeating seating = (seating.seats ≡ 0) × (281474976710656 ≤ seating.tickets)

-- what is to be dealt to so many producers and consumers over these lanes and channels, and the empty lists that it goes into
pub record AreUndealt {B : Type 0} (producers shards : ℕ) (lanes : List (ShardQueue Job)) (channels : List (ReplyChannel Noted))
    (u : Undealt B) : Type 0 where
  pub lane_permits : Rows lanes 0 (map (λ v. v.items) u.lane_permits.items)
  pub receivers : AreReceivers channels u.receivers.items
  pub unheard : All (λ s. received s ≡ []) u.receivers.items
  pub channel_permits : SenderRows channels 0 (map (λ v. v.items) u.channel_permits.items)
  pub consumers : AreConsumers lanes u.consumers.items
  pub fresh : All (λ s. got s ≡ []) u.consumers.items
  pub parkers : vec_len u.parkers ≡ shards
  pub seating : IsWholeSeating u.seating
  pub hands : AreHandRooms producers (length lanes) u.hands
  pub rooms : AreRooms producers (length lanes) u.rooms
  pub sender_hands : AreHandRooms shards (length channels) u.sender_hands
  pub sender_rooms : AreRooms shards (length channels) u.sender_rooms
