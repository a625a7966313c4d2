-- What contracts see of the tokens, and of what passes between threads with one.
use Rattle.std.specs.Prelude.{◌≡◌, ◌≢◌, ◌⊎◌, ℕ, List}
use Rattle.delivery_token.specs.declared.CopyKey.{CopyKey}
use Rattle.delivery_token.specs.declared.Job.{Job}
use Rattle.delivery_token.specs.declared.Verdict.TheVariants.{Stored}
use Rattle.delivery_token.specs.declared.log.Noted.{Noted}
use Rattle.house_history.specs.declared.event.Event.{Event}
use Rattle.house_history.specs.Legal.{WasJudged, WasWithdrawn}

-- a seat and what it has sent, with the tickets
pub record Seat : Type 0 where
  pub number : ℕ
  pub sent : List (Job × ℕ)

-- a copy's ticket, and what the history says of the copy
pub record Ticket : Type 0 where
  pub number : ℕ
  pub life : List Event

-- a mailbox and all that happened in it
pub record MailboxPart : Type 0 where
  pub number : ℕ
  pub events : List Event

-- There is this verdict on a copy with this key and this mailbox. (Which copy that is the history says; by the law `noted_is_own` it is the one
-- that the key's seat has sent.)
abbrev pub IsNotedIn : List Event → Noted → Type 0
IsNotedIn history noted = (j : Job) × (j.key ≡ noted.key) × (j.mailbox ≡ noted.mailbox) × WasJudged history j noted.verdict

-- The copy with this key was withdrawn, so there is never a verdict on it.
abbrev pub KeyWasWithdrawn : List Event → CopyKey → Type 0
KeyWasWithdrawn history key = (j : Job) × (j.key ≡ key) × WasWithdrawn history j

-- What is noted of a copy is the last word on it: there is this verdict, or the copy wasn't stored, and there is never a verdict.
abbrev pub IsSettledIn : List Event → Noted → Type 0
IsSettledIn history noted = IsNotedIn history noted ⊎ (((uid : ℕ) → noted.verdict ≢ Stored uid) × KeyWasWithdrawn history noted.key)
