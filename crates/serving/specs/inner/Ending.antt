-- What bodies and proofs say besides: what a house that served came to, by what was taken of its queues.
use Rattle.std.specs.Prelude.{◌≡◌, ◌<◌, ◌≤◌, ◌++◌, ℕ, zero, suc, Bool, List, [], ◌∷◌, All, true, false, length, map, slice_index_or, vec_len}
use Rattle.delivery_token.specs.declared.Job.{Job}
use Rattle.delivery_token.specs.declared.log.Noted.{Noted}
use Rattle.shard_queue.specs.Closing.{IsWhole}
use Rattle.shard_queue.specs.Lane.{of}
use Rattle.shard_queue.specs.Permits.{history, producers_of}
use Rattle.shard_queue.specs.Reply.{reply_history, senders_of}
use Rattle.shard_queue.specs.Reply.{ReplyChannel}
use Rattle.shard_queue.specs.declared.lane.Entry.{Entry}
use Rattle.shard_queue.specs.declared.lane.Entry.TheVariants.{End}
use Rattle.shard_queue.specs.Permits.{Closed}
use Rattle.shard_queue.specs.Permits.{ShardQueue}
use Rattle.shard_queue.specs.Reply.{ReplyClosed}
use Rattle.lane_work.specs.Answering.{WereAnswered}
use Rattle.lane_work.specs.Speaking.{premises_of}
use Rattle.house_shared.specs.declared.shared.HouseShared.{HouseShared}
use Rattle.house_history.specs.Legal.{Legal}
use Rattle.lane_work.specs.Backing.{IsBacked}
use Rattle.house_shared.specs.Crew.{AllAt}
use Rattle.reckoning.specs.Shelves.{IsRecorded}
use Rattle.serving_workers.specs.Leaving.{HasServedClients}
use Rattle.serving_workers.specs.Finished.{Finished}
use Rattle.serving.specs.Left.{IsWorkerOf, WasAnswered, answers, histories}

-- All that was put on each of these lanes was taken, each of its producers has put its end, and nobody else put anything.
abbrev pub WereEmptied : List (ShardQueue Job) → List (Closed Job) → Type 0
WereEmptied [] [] = Unit {0}
WereEmptied [] (c ∷ closed) = ⊥
WereEmptied (lane ∷ lanes) [] = ⊥
WereEmptied (lane ∷ lanes) (c ∷ closed) = IsWhole (producers_of lane) 0 (history c) × WereEmptied lanes closed

-- the same of reply channels
abbrev pub WereHeardOut : List (ReplyChannel Noted) → List (ReplyClosed Noted) → Type 0
WereHeardOut [] [] = Unit {0}
WereHeardOut [] (c ∷ closed) = ⊥
WereHeardOut (channel ∷ channels) [] = ⊥
WereHeardOut (channel ∷ channels) (c ∷ closed) = IsWhole (senders_of channel) 0 (reply_history c) × WereHeardOut channels closed

-- What a house has left, the first of whose producers are so many workers.
pub record CameTo {B : Type 0} (shared : HouseShared B) (workers : ℕ) (finished : Finished) : Type 0 where
  -- What was taken of a worker from each lane is what the connections at its line submitted, one after another with the serials from 0 on, and then
  -- its end; and the verdict on each of these copies came on its channel.
  pub mail : (n : ℕ) → n < workers → IsWorkerOf (premises_of shared.intake) n finished
  -- So it is of each client slot: what was taken of it is what its clients appended, one client after another with the serials from 0 on.
  pub clients : (n : ℕ) → workers ≤ n → n < length shared.delivery.channels.items
      → HasServedClients (premises_of shared.intake) n (slice_index_or (answers finished) n []) (map (of n) (histories finished))
  -- Each copy that was taken of a producer, a worker or another, was answered once, by its shard's shared consumer and to that producer, in the order
  -- in which they were taken.
  pub answered : (s p : ℕ) → s < length shared.intake.lanes.items → p < length shared.delivery.channels.items
      → WasAnswered (length shared.delivery.mailboxes.items) s p (slice_index_or (histories finished) s []) (slice_index_or (answers finished) p [])
  -- Nothing else was on a lane or on a channel, and nothing was left there.
  pub lanes : WereEmptied shared.intake.lanes.items finished.lanes.items
  pub channels : WereHeardOut shared.delivery.channels.items finished.channels.items
  -- The house's history is legal, and has what each producer put and heard, and nothing else of its seat; and of each mailbox just what happened
  -- there.
  pub legal : Legal finished.front
  pub backed : (n : ℕ) → n < length shared.delivery.channels.items
      → IsBacked n finished.front (slice_index_or (answers finished) n []) (map (of n) (histories finished))
  pub mailboxes : AllAt (IsRecorded finished.front) 0 finished.mailboxes.items
  pub each_mailbox : vec_len finished.mailboxes ≡ length shared.delivery.mailboxes.items

-- ---- on the way there

-- Of these producers just the first so many are workers, and take mail.
abbrev pub FirstTakeMail : ℕ → (marks : List Bool) → Type 0
FirstTakeMail zero marks = All (λ mark. mark ≡ false) marks
FirstTakeMail (suc n) [] = ⊥
FirstTakeMail (suc n) (mark ∷ marks) = (mark ≡ true) × FirstTakeMail n marks
