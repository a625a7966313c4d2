-- What is dealt to the threads of a house.
use Rattle.std.specs.Prelude.{◌≡◌, ◌≢◌, ◌<◌, ◌≤◌, ℕ, suc, List, [], ◌∷◌, All, Some, None, length, slice_get, vec_len, vec_capacity}
use Rattle.delivery_token.specs.declared.Job.{Job}
use Rattle.delivery_token.specs.declared.log.Noted.{Noted}
use Rattle.shard_queue.specs.Permits.{ShardQueue}
use Rattle.shard_queue.specs.Reply.{ReplyChannel}
use Rattle.shard_queue.specs.Reply.{IsReceiver, received, sent_on}
use Rattle.shard_queue.specs.Permits.{IsConsumer, got}
use Rattle.lane_work.specs.Permits.{ArePermits, AreSenders, IsNew}
use Rattle.house_shared.specs.Users.{user_numbered}
use Rattle.house_shared.specs.declared.shared.HouseShared.{HouseShared}
use Rattle.house_shared.specs.declared.shared.Guest.{Guest}
use Rattle.house_shared.specs.declared.shared.Post.{Post}
use Rattle.house_shared.specs.declared.shared.Stand.{Stand}
use Rattle.house_shared.specs.declared.shared.Crew.{Crew}

-- each has the property of its position, where the first is at n
abbrev pub AllAt : {A : Type 0} → (ℕ → A → Type 0) → ℕ → List A → Type 0
AllAt P n [] = Unit {0}
AllAt P n (x ∷ xs) = P n x × AllAt P (suc n) xs

-- the house that they work in is one: a shard for each lane, and a channel for each producer
pub record IsHouse {B : Type 0} (shared : HouseShared B) (producers : ℕ) : Type 0 where
  pub shards : shared.intake.directory.shards ≡ length shared.intake.lanes.items
  pub host : length shared.intake.host.items < 256
  pub few_lanes : length shared.intake.lanes.items < 256
  pub channels : length shared.delivery.channels.items ≡ producers
  pub few_producers : producers < 256

-- each session's user is one of the directory, and each mailbox has a list of bells; there are no more sessions than an actor's number tells apart
pub record AreGuests {B : Type 0} (shared : HouseShared B) (guests : List Guest) : Type 0 where
  pub few : length guests ≤ 256
  pub named : All (λ v. user_numbered v.user shared.intake.directory.homes ≢ None) guests
  pub bells : length shared.intake.directory.homes ≤ length shared.delivery.sessions.items

-- ---- what is dealt

-- the post of producer n: it has put nothing, and hears its own channel, of which it has heard nothing yet; its seat has sent nothing
pub record IsPost {B : Type 0} (shared : HouseShared B) (n : ℕ) (post : Post B) : Type 0 where
  pub number : post.desk.number ≡ n
  pub permits : ArePermits shared.intake.lanes.items n post.desk.permits.items
  pub fresh : All IsNew post.desk.permits.items
  pub receiver : (channel : ReplyChannel Noted) → slice_get shared.delivery.channels.items n ≡ Some channel → IsReceiver channel post.desk.receiver
  pub unheard : (received post.desk.receiver ≡ []) × (post.desk.ends ≡ 0)
  pub dispatch : (post.desk.dispatch.number ≡ n) × (post.desk.dispatch.sent ≡ [])
  pub empty : post.room.items ≡ []
  pub room : length shared.intake.lanes.items ≤ vec_capacity post.room

-- the stand of consumer n: it has taken nothing and sent nothing, and takes from its own lane
pub record IsStand {B : Type 0} (shared : HouseShared B) (n : ℕ) (stand : Stand B) : Type 0 where
  pub shard : stand.stall.shard ≡ n
  pub permit : (lane : ShardQueue Job) → slice_get shared.intake.lanes.items n ≡ Some lane → IsConsumer lane stand.stall.permit
  pub fresh : got stand.stall.permit ≡ []
  pub senders : AreSenders shared.delivery.channels.items n stand.stall.senders.items
  pub unsent : All (λ s. sent_on s ≡ []) stand.stall.senders.items
  pub empty : stand.room.items ≡ []
  pub room : length shared.delivery.channels.items ≤ vec_capacity stand.room

-- a stand for each lane, a post for each producer, and room for what comes of them
pub record IsCrew {B : Type 0} (shared : HouseShared B) (producers : ℕ) (crew : Crew B) : Type 0 where
  pub stands : AllAt (IsStand shared) 0 crew.stands.items
  pub each_lane : vec_len crew.stands ≡ length shared.intake.lanes.items
  pub posts : AllAt (IsPost shared) 0 crew.posts.items
  pub each_post : vec_len crew.posts ≡ producers
  pub consumed : (crew.consumed.items ≡ []) × (length shared.intake.lanes.items ≤ vec_capacity crew.consumed)
  pub worked : (crew.worked.items ≡ []) × (producers ≤ vec_capacity crew.worked)
  pub unmanned : (crew.unmanned.items ≡ []) × (producers ≤ vec_capacity crew.unmanned)
