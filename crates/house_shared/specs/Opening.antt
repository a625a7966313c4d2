-- What is made before the first thread runs: the shared state that all share, and room for what the threads will leave.
use Rattle.std.specs.Prelude.{◌≡◌, ◌≤◌, ◌*◌, ◌+◌, ◌-◌, ◌++◌, ℕ, List, [], All, length, map, replicate, vec_capacity}
use Rattle.envelope.specs.Names.{Directory}
use Rattle.lane_work.specs.Rooms.{AreRooms}
use Rattle.shard_queue.specs.Reply.{senders_of}
use Rattle.shard_queue.specs.Permits.{capacity_of, producers_of}
use Rattle.house_shared.specs.Crew.{IsHouse}
use Rattle.house_shared.specs.declared.shared.HouseShared.{HouseShared}
use Rattle.house_shared.specs.declared.opening.Baskets.{Baskets}
use Rattle.house_shared.specs.declared.opening.Sizes.{Sizes}
use Rattle.house_shared.specs.declared.stock.Spares.{Spares}

-- A worker's reply channel has room for so many verdicts: for those on all copies of a message.
abbrev pub reply_room : ℕ
reply_room = 128

-- How much room the reply channel of each producer has, the workers first. A session awaits one verdict at a time: it has room for that and for each
-- shard's end.
abbrev pub reply_rooms : (producers sessions shards : ℕ) → List ℕ
reply_rooms producers sessions shards = replicate (producers - sessions) reply_room ++ replicate (producers - (producers - sessions)) (shards + 1)

-- the shared state is that of a house with this directory, each consumer has a bell, and each queue is as large as the sizes say
pub record IsHouseShared {B : Type 0} (directory : Directory) (sizes : Sizes) (shared : HouseShared B) : Type 0 where
  pub house : IsHouse shared sizes.producers
  pub is : shared.intake.directory ≡ directory
  pub host : shared.intake.host.items ≡ sizes.host.now
  pub max_message : shared.intake.max_message ≡ sizes.max_message
  pub turns : shared.turns ≡ sizes.turns
  pub closings : map (λ c. c.items) shared.intake.closings.items ≡ map (λ c. c.items) sizes.closings.now
  pub bells : length shared.bells.items ≡ directory.shards
  pub mailboxes : length shared.delivery.mailboxes.items ≡ length directory.homes
  pub lanes : All (λ q. (capacity_of q ≡ sizes.depth) × (producers_of q ≡ sizes.producers)) shared.intake.lanes.items
  pub channels : All (λ c. senders_of c ≡ directory.shards) shared.delivery.channels.items

-- nothing lies in these lists
abbrev pub AreNoSpares : {B : Type 0} → Spares B → Type 0
AreNoSpares s = (s.permits.items ≡ []) × (s.ended.items ≡ []) × (s.senders.items ≡ []) × (s.senders_ended.items ≡ [])

-- nor in these, and each has room for so many
pub record AreSpares {B : Type 0} (n : ℕ) (s : Spares B) : Type 0 where
  pub empty : AreNoSpares s
  pub permits : n ≤ vec_capacity s.permits
  pub ended : n ≤ vec_capacity s.ended
  pub senders : n ≤ vec_capacity s.senders
  pub senders_ended : n ≤ vec_capacity s.senders_ended

-- nothing lies in the baskets, and there is room for what so many producers and consumers leave
pub record AreBaskets {B : Type 0} (producers shards : ℕ) (b : Baskets B) : Type 0 where
  pub hands : (b.hands.items ≡ []) × (producers ≤ vec_capacity b.hands)
  pub lists : AreRooms shards producers b.lists
  pub sender_hands : (b.sender_hands.items ≡ []) × (shards ≤ vec_capacity b.sender_hands)
  pub sender_lists : AreRooms producers shards b.sender_lists
  pub consumers : (b.consumers.items ≡ []) × (shards ≤ vec_capacity b.consumers)
  pub receivers : (b.receivers.items ≡ []) × (producers ≤ vec_capacity b.receivers)
  pub replies : (b.replies.items ≡ []) × (producers ≤ vec_capacity b.replies)
  pub logs : (b.logs.items ≡ []) × (producers ≤ vec_capacity b.logs)
  pub taken : (b.taken.items ≡ []) × (shards ≤ vec_capacity b.taken)
  pub lanes : (b.lanes.items ≡ []) × (shards ≤ vec_capacity b.lanes)
  pub channels : (b.channels.items ≡ []) × (producers ≤ vec_capacity b.channels)
  pub spares : AreSpares (producers * shards) b.spares
