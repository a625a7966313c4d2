-- What bodies and proofs say besides: the history goes on with what a producer puts.
use Rattle.std.specs.Prelude.{◌≡◌, ◌⊎◌, ℕ, ◌++◌, List, All, Contains}
use mathlib.Core.List.{IsPrefix}
use Rattle.delivery_token.specs.declared.Job.{Job}
use Rattle.house_history.specs.Events.{sent_by}
use Rattle.house_history.specs.Legal.{Legal, WasWithdrawn}
use Rattle.shard_queue.specs.declared.lane.Entry.{Entry}
use Rattle.shard_queue.specs.declared.lane.Entry.TheVariants.{Item}
use Rattle.lane_work.specs.Backing.{WasSent}
use Rattle.lane_work.specs.Dispatching.{Dispatch}

-- More is known of the history, and where each of the entries that had been put on a lane was sent, so was each that has been put now. What was put
-- stays; and each copy that was sent since was put there, or withdrawn.
pub record GoesOnWith (old new : Dispatch) (before after : List (Entry Job)) : Type 0 where
  pub number : new.number ≡ old.number
  pub goes_on : IsPrefix old.history new.history
  pub legal : Legal old.history → Legal new.history
  pub sent : All (WasSent old.history) before → All (WasSent new.history) after
  pub stays : (entry : Entry Job) → Contains before entry → Contains after entry
  pub more : List (Job × ℕ)
  pub own : sent_by new.number new.history ≡ sent_by old.number old.history ++ more
  pub only : All (λ (one : Job × ℕ). ((seat : ℕ) × Contains after (Item seat one.0)) ⊎ WasWithdrawn new.history one.0) more
