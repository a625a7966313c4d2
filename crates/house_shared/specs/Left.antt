-- What each thread of a house leaves.
use Rattle.std.specs.Prelude.{◌≡◌, ◌≤◌, ◌+◌, ℕ, List, [], All, Some, length, min, slice_get, vec_len}
use Rattle.delivery_token.specs.declared.Job.{Job}
use Rattle.delivery_token.specs.declared.log.Noted.{Noted}
use Rattle.shard_queue.specs.declared.lane.Entry.{Entry}
use Rattle.shard_queue.specs.Permits.{ShardQueue}
use Rattle.lane_work.specs.declared.consumer.Consumed.{Consumed}
use Rattle.lane_work.specs.Consuming.{IsConsumed}
use Rattle.house_shared.specs.declared.shared.HouseShared.{HouseShared}
use Rattle.house_shared.specs.declared.shared.Post.{Post}
use Rattle.house_shared.specs.declared.shared.Stand.{Stand}
use Rattle.house_shared.specs.declared.left.Ran.{Ran}

-- A session's client may append messages of as many bytes as one that a worker takes may have, as far as a session counts.
abbrev pub most_of : ℕ → ℕ
most_of max_message = min max_message 4294967295

-- what consumer n left is what a consumer's life promises that had sent nothing before, of its own lane
pub record IsServiceOf {B : Type 0} (shared : HouseShared B) (n : ℕ) (c : Consumed B) : Type 0 where
  pub each : (lane : ShardQueue Job) → slice_get shared.intake.lanes.items n ≡ Some lane
      → (before : List (List (Entry Noted))) × All (λ e. e ≡ []) before × IsConsumed lane shared.delivery n before c

-- a post that no thread has had: each permit stands there, or what is left of it
abbrev pub IsPostLeft : {B : Type 0} → ℕ → Post B → Type 0
IsPostLeft lanes post = vec_len post.desk.permits + vec_len post.room ≤ lanes

-- a stand that no thread has had: none of its senders has ended
abbrev pub IsStandLeft : {B : Type 0} → ℕ → Stand B → Type 0
IsStandLeft producers stand = (vec_len stand.stall.senders ≤ producers) × (stand.room.items ≡ [])

-- However the threads were started: of each producer there is what it left or its post, of each consumer what it left or its stand, and none has more
-- permits than it was dealt.
pub record IsSpendable {B : Type 0} (shared : HouseShared B) (producers : ℕ) (ran : Ran B) : Type 0 where
  pub each_producer : vec_len ran.posts + vec_len ran.worked ≡ producers
  pub each_lane : vec_len ran.stands + vec_len ran.consumed ≡ length shared.intake.lanes.items
  pub posts : All (IsPostLeft (length shared.intake.lanes.items)) ran.posts.items
  pub stands : All (IsStandLeft producers) ran.stands.items
