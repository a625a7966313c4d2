-- What a server has left that stopped in order: what was taken of its queues, to their end, and the one history that all its threads shared.
use Rattle.std.specs.Prelude.{◌≡◌, ◌<◌, ◌≤◌, ◌++◌, ℕ, List, [], ◌∷◌, Some, length, map, slice_get, slice_index_or, vec_len}
use Rattle.delivery_token.specs.declared.Job.{Job}
use Rattle.delivery_token.specs.declared.log.Noted.{Noted}
use Rattle.house_history.specs.Legal.{Legal}
use Rattle.shard_queue.specs.Lane.{of}
use Rattle.shard_queue.specs.Permits.{history}
use Rattle.shard_queue.specs.Reply.{reply_history}
use Rattle.shard_queue.specs.declared.lane.Entry.{Entry}
use Rattle.shard_queue.specs.declared.lane.Entry.TheVariants.{End}
use Rattle.lane_work.specs.Account.{Premises}
use Rattle.lane_work.specs.Answering.{WereAnswered}
use Rattle.lane_work.specs.Backing.{IsBacked}
use Rattle.settings.specs.Settings.{directory_for}
use Rattle.settings.specs.declared.config.Config.{Config}
use Rattle.serving_workers.specs.Leaving.{HasServedClients, HasServedMail, Told}
use Rattle.house_shared.specs.Crew.{AllAt}
use Rattle.reckoning.specs.Shelves.{IsRecorded}
use Rattle.serving_workers.specs.Finished.{Finished}
use Rattle.serving.specs.Kept.{IsSetAs}

-- of each shard, all that was taken from its lane
abbrev pub histories : Finished → List (List (Entry Job))
histories finished = map history finished.lanes.items

-- of each producer, all that came on its reply channel
abbrev pub answers : Finished → List (List (Entry Noted))
answers finished = map reply_history finished.channels.items

module _ (mailboxes shard producer : ℕ) where
  -- What the shared consumer of a shard told a producer: of these entries, which it took, one verdict on each copy of that producer, in their order,
  -- and then its end. `heard`: all that came on the producer's reply channel
  pub record WasAnswered (taken : List (Entry Job)) (heard : List (Entry Noted)) : Type 0 where
    pub told : List (Entry Noted)
    pub each : WereAnswered mailboxes shard producer taken told
    pub ended : of shard heard ≡ told ++ End shard ∷ []

-- Producer n had a line, at which its connections came in.
pub record IsWorkerOf (house : Premises) (n : ℕ) (finished : Finished) : Type 0 where
  pub line : Told
  pub here : slice_get finished.lines n ≡ Some (Some line)
  pub served : HasServedMail house n line (slice_index_or (answers finished) n []) (map (of n) (histories finished))

pub record HasLeft (config : Config) (finished : Finished) : Type 0 where
  pub house : Premises
  pub set : IsSetAs config house
  -- There was a lane for each shard, and the first of the producers were the workers.
  pub shards : length finished.lanes.items ≡ (directory_for config).shards
  pub workers : config.workers ≤ length finished.channels.items
  -- The one history of all threads is legal, and has what each producer put and heard, and nothing else of its seat. Of each mailbox it has just what
  -- happened there, and the mailbox is as that leaves it.
  pub legal : Legal finished.front
  pub backed : (n : ℕ) → n < length finished.channels.items → IsBacked n finished.front (slice_index_or (answers finished) n [])
      (map (of n) (histories finished))
  pub mailboxes : AllAt (IsRecorded finished.front) 0 finished.mailboxes.items
  pub each_mailbox : vec_len finished.mailboxes ≡ length (directory_for config).homes
  -- What was taken of a worker from each lane is what the connections at its line submitted, one after another with the serials from 0 on, and then
  -- its end; and the verdict on each of these copies came on its channel.
  pub mail : (n : ℕ) → n < config.workers → IsWorkerOf house n finished
  -- So it is of each client slot: what was taken of it is what its clients appended, one client after another with the serials from 0 on.
  pub clients : (n : ℕ) → config.workers ≤ n → n < length finished.channels.items
      → HasServedClients house n (slice_index_or (answers finished) n []) (map (of n) (histories finished))
  -- Each copy that was taken of a producer was answered once, by its shard's shared consumer and to that producer, in the order in which they were
  -- taken.
  pub answered : (s p : ℕ) → s < length finished.lanes.items → p < length finished.channels.items
      → WasAnswered (length (directory_for config).homes) s p (slice_index_or (histories finished) s []) (slice_index_or (answers finished) p [])
