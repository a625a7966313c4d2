-- What a report says of a run: how what the threads left agrees.
use Rattle.std.specs.Prelude.{◌≡◌, ◌==◌, ◌+◌, ◌++◌, ℕ, ◌<◌, List, [], ◌∷◌, length, map, All, Some, slice_get, slice_index_or}
use Rattle.std.specs.List.{range_with_len}
use Rattle.delivery_token.specs.Text.{Text}
use Rattle.delivery_token.specs.declared.CopyKey.{CopyKey}
use Rattle.delivery_token.specs.declared.Job.{Job}
use Rattle.delivery_token.specs.declared.log.Noted.{Noted}
use Rattle.running_house.specs.Lists.{ListsAgree}
use Rattle.envelope.specs.Names.{shard_of}
use Rattle.shard_queue.specs.declared.lane.Entry.{Entry}
use Rattle.shard_queue.specs.declared.lane.Entry.TheVariants.{End}
use Rattle.shard_queue.specs.Closing.{IsWhole}
use Rattle.shard_queue.specs.Lane.{of}
use Rattle.shard_queue.specs.Reply.{reply_history}
use Rattle.shard_queue.specs.Permits.{history, numbers}
use Rattle.house_history.specs.Events.{accepted_in}
use Rattle.house_history.specs.Legal.{Legal}
use Rattle.lane_work.specs.Account.{Account}
use Rattle.lane_work.specs.Answering.{WereAnswered}
use Rattle.lane_work.specs.Awaiting.{copies_in, verdicts_in}
use Rattle.lane_work.specs.Backing.{IsBacked}
use Rattle.lane_work.specs.Consuming.{items_of}
use Rattle.running_house.specs.Produced.{SessionAccount}
use Rattle.house_shared.specs.declared.shared.Guest.{Guest}
use Rattle.reckoning.specs.Shelves.{AreToldOnce}
use Rattle.running_house.specs.Order.{AreInLaneOrder}
use Rattle.running_house.specs.Plan.{connections_of, premises_for, producers_in}
use Rattle.running_house.specs.Refusals.{MayCome}
use Rattle.running_house.specs.declared.plan.Plan.{Plan}
use Rattle.running_house.specs.Report.{Report}

-- ---- what the report holds, by numbers

-- of each worker, of each of its connections, what was replied
abbrev pub replies_of : Report → List (List (List ℕ))
replies_of r = map (λ w. map (λ b. b.items) w.items) r.replies.items

-- what each worker heard, and behind them each session
abbrev pub notes_of : Report → List (List Noted)
notes_of r = map (λ l. l.notes) r.logs.items

-- what each session said
abbrev pub said_of : Report → List (List ℕ)
said_of r = map (λ b. b.items) r.sessions.items

-- what each mailbox accepted
abbrev pub accepted_of : Report → List (List (CopyKey × ℕ))
accepted_of r = map (λ v. v.items) r.accepted.items

-- and the messages that are there
abbrev pub texts_of : Report → List (List (ℕ × Text))
texts_of r = map (λ v. v.items) r.texts.items

-- all that was taken from each lane
abbrev pub histories : Report → List (List (Entry Job))
histories r = map history r.closed.lanes.items

-- all that was received on each reply channel
abbrev pub answers : Report → List (List (Entry Noted))
answers r = map reply_history r.closed.channels.items

-- the copies that were taken from each lane
abbrev pub copies_taken : Report → List (List Job)
copies_taken r = map items_of (histories r)

-- ---- the report

-- All that was put on a queue was taken, each of so many has put its end, and nobody else put anything. How much room the queue had is not said:
-- nothing waits there any more, so none is wanted.
abbrev pub IsEmptied : {T : Type 0} → ℕ → List (Entry T) → Type 0
IsEmptied producers got = IsWhole producers 0 got

module _ (mailboxes shard producer : ℕ) where
  -- What the consumer of a shard told a producer: of these entries, which it took, one verdict on each copy of that producer, in their order, and
  -- then its end. It told nothing else. `heard`: all that came on the producer's reply channel
  pub record WasAnswered (taken : List (Entry Job)) (heard : List (Entry Noted)) : Type 0 where
    pub told : List (Entry Noted)
    pub each : WereAnswered mailboxes shard producer taken told
    pub ended : of shard heard ≡ told ++ End shard ∷ []

pub record Agrees (plan : Plan) (r : Report) : Type 0 where
  -- Each worker's replies and log are what its connections come to by the dialogue, where it heard what was received on its channel; and what was
  -- taken of it from each lane is what its connections submitted, then its end.
  pub accounts : (p : ℕ) → p < length (connections_of plan)
      → Account (premises_for plan) p (slice_index_or (connections_of plan) p []) (slice_index_or (replies_of r) p [])
      (slice_index_or (notes_of r) p [])
      (slice_index_or (answers r) p []) (map (of p) (histories r))
  -- So it is of each session, by its steps: what it said, hold by hold, its log, and what was taken of it from each lane are what these come to.
  pub sessions : (n : ℕ) (guest : Guest) → slice_get plan.sessions.items n ≡ Some guest
      → SessionAccount (premises_for plan) (length (premises_for plan).directory.homes) plan.turns (length plan.workers.items + n) guest
      (slice_index_or (said_of r) n [] ∷ [])
      (slice_index_or (notes_of r) (length plan.workers.items + n) []) (slice_index_or (answers r) (length plan.workers.items + n) [])
      (map (of (length plan.workers.items + n)) (histories r))
  -- What each mailbox accepted of each of them is what the log has as stored there, and nothing else was accepted; each message that is there
  -- has the text of its copy, and where no session could remove one, every accepted copy is there.
  pub lists : ListsAgree (premises_for plan).directory (length plan.sessions.items == 0) (notes_of r) (copies_taken r) (accepted_of r) (texts_of r)
  -- Each copy that was taken of one of them was answered once, by the consumer that took it, and nothing else was.
  pub answered : (s p : ℕ) → s < plan.config.shards → p < producers_in plan
      → WasAnswered (length (premises_for plan).directory.homes) s p (slice_index_or (histories r) s []) (slice_index_or (answers r) p [])
  -- And each of them heard as many verdicts as copies of it were taken: it awaited each, and nothing else came but ends.
  pub only : (p : ℕ) → p < producers_in plan → verdicts_in (slice_index_or (answers r) p []) ≡ copies_in (map (of p) (histories r))
  -- The copies that a mailbox accepted have the UIDs from the first on, with no gap; no message that is there is told twice; and the messages stand
  -- in the order in which their copies were taken.
  pub uids : (m : ℕ) → m < length (premises_for plan).directory.homes
      → map (λ pair. pair.1) (slice_index_or (accepted_of r) m [])
      ≡ range_with_len plan.config.first_uid (length (slice_index_or (accepted_of r) m []))
  pub once : (m : ℕ) → m < length (premises_for plan).directory.homes → AreToldOnce (slice_index_or (texts_of r) m [])
  pub in_order : (m : ℕ) → m < length (premises_for plan).directory.homes
      → AreInLaneOrder m (slice_index_or (texts_of r) m []) (slice_index_or (accepted_of r) m [])
      (slice_index_or (copies_taken r) (shard_of (premises_for plan).directory m) [])
  -- A copy was refused for want of room on its lane, in its mailbox, or of UIDs, only where that can have been.
  pub refusals : (p : ℕ) → p < producers_in plan
      → All (MayCome plan.config (premises_for plan).directory (accepted_of r) (histories r)) (slice_index_or (notes_of r) p [])
  -- The one history of all threads is legal, and has what each worker and session put and heard, and nothing else of its seat.
  pub legal : Legal r.history
  pub backed : (p : ℕ) → p < producers_in plan → IsBacked p r.history (slice_index_or (answers r) p []) (map (of p) (histories r))
  -- What each mailbox accepted is what that history says that it accepted.
  pub mailboxes : (m : ℕ) → m < length (premises_for plan).directory.homes → slice_index_or (accepted_of r) m [] ≡ accepted_in m r.history
  -- There is one of each for each worker and session.
  pub seats : map (λ l. l.seat) r.logs.items ≡ numbers 0 (producers_in plan)
  pub replies : length (replies_of r) ≡ length (connections_of plan)
  pub said : length r.sessions.items ≡ length plan.sessions.items
  -- Each lane and each reply channel was closed: all that was put was taken, and nobody else put anything.
  pub shards : length (histories r) ≡ plan.config.shards
  pub lanes : All (λ c. IsEmptied (producers_in plan) (history c)) r.closed.lanes.items
  pub producers : length r.closed.channels.items ≡ producers_in plan
  pub channels : All (λ c. IsEmptied plan.config.shards (reply_history c)) r.closed.channels.items
