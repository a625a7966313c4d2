-- What a house's history has of its producers, once they have ended.
use Rattle.std.specs.Prelude.{◌≡◌, ℕ, suc, List, [], ◌∷◌, map}
use mathlib.Core.List.{IsPrefix}
use Rattle.delivery_token.specs.declared.Job.{Job}
use Rattle.delivery_token.specs.declared.log.Noted.{Noted}
use Rattle.house_history.specs.declared.event.Event.{Event}
use Rattle.house_history.specs.Events.{sent_by}
use Rattle.shard_queue.specs.Permits.{said}
use Rattle.shard_queue.specs.declared.lane.Entry.{Entry}
use Rattle.shard_queue.specs.Permits.{Ended}
use Rattle.lane_work.specs.Backing.{IsBacked}
use Rattle.lane_work.specs.declared.worker.Worked.{Worked}

-- All that this producer knows of the history is known here, and its seat has sent no more.
pub record IsKnownIn {B : Type 0} (history : List Event) (w : Worked B) : Type 0 where
  pub known : IsPrefix w.dispatch.history history
  pub own : sent_by w.dispatch.number history ≡ sent_by w.dispatch.number w.dispatch.history

-- The history has what each producer, from this one on, put, by what is left of its permits, and what it heard, and nothing else of its seat.
abbrev pub AreBacked : List Event → (first : ℕ) → (ended : List (List (Ended Job))) → (heard : List (List (Entry Noted))) → Type 0
AreBacked history n [] [] = Unit {0}
AreBacked history n [] (heard ∷ all) = ⊥
AreBacked history n (words ∷ ended) [] = ⊥
AreBacked history n (words ∷ ended) (heard ∷ all) = IsBacked n history heard (map said words) × AreBacked history (suc n) ended all
