-- What a seat says of its copies in the house's history.
use Rattle.std.specs.Prelude.{◌≡◌, ℕ, ◌+◌, ◌<◌, List, [], ◌∷◌, ◌++◌, All, Contains, Result, Ok, Err}
use mathlib.Core.List.{IsPrefix}
use Rattle.delivery_token.specs.declared.CopyKey.{CopyKey}
use Rattle.delivery_token.specs.declared.Job.{Job}
use Rattle.delivery_token.specs.Keys.{Below}
use Rattle.house_history.specs.declared.event.Event.{Event}
use Rattle.house_history.specs.Events.{sent_by}
use Rattle.house_history.specs.Legal.{Legal}

-- What a seat sends with.
pub record Dispatch : Type 0 where
  pub number : ℕ  -- the seat's
  pub sent : List (Job × ℕ)  -- all that it has sent, each copy with its ticket
  pub tickets : ℕ  -- how many are left
  pub history : List Event  -- how the house's history begins, as it is known here

-- the key is this seat's, and above those of all copies that it has sent
pub record IsNextKey (d : Dispatch) (key : CopyKey) : Type 0 where
  pub own : key.seat ≡ d.number
  pub above : All (λ (one : Job × ℕ). Below one.0.key key) d.sent

-- the copy may be sent: its key is the next, and a ticket is left
pub record MaySend (d : Dispatch) (job : Job) : Type 0 where
  pub next : IsNextKey d job.key
  pub left : 0 < d.tickets

-- It was said of this copy alone that it is sent, with a ticket of its own, and the history shows it.
pub record Sends (job : Job) (old new : Dispatch) : Type 0 where
  pub number : new.number ≡ old.number
  pub ticket : ℕ
  pub sent : new.sent ≡ old.sent ++ (job, ticket) ∷ []
  pub tickets : new.tickets + 1 ≡ old.tickets
  pub goes_on : IsPrefix old.history new.history
  pub legal : Legal new.history
  pub shown : Contains (sent_by job.key.seat new.history) (job, ticket)
  pub own : sent_by new.number new.history ≡ sent_by old.number old.history ++ (job, ticket) ∷ []

-- By the copy: one that may be sent is sent, and is a letter from then on; of any other nothing is said, and it comes back.
pub data SendsOrKeeps (job : Job) (answer : Result Job Job) (old new : Dispatch) : Type 0 where
  sends : MaySend old job → answer ≡ Ok job → Sends job old new → SendsOrKeeps job answer old new
  keeps : (MaySend old job → ⊥) → answer ≡ Err job → new ≡ old → SendsOrKeeps job answer old new

-- More of the history is known, and nothing was sent.
pub record HasLearned (old new : Dispatch) : Type 0 where
  pub number : new.number ≡ old.number
  pub sent : new.sent ≡ old.sent
  pub tickets : new.tickets ≡ old.tickets
  pub goes_on : IsPrefix old.history new.history
  pub legal : Legal new.history
  pub own : sent_by new.number new.history ≡ sent_by old.number old.history
