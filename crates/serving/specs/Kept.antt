-- What stands of all that was brought to a server that stopped in order, by the one history that all its threads shared.
use Rattle.std.specs.Prelude.{◌≡◌, ◌<◌, ◌≤◌, ℕ, List, All, Some, length, map, slice_get, vec_len}
use Rattle.change_ring.specs.Log.{rows_of}
use Rattle.delivery_token.specs.declared.Job.{Job}
use Rattle.delivery_token.specs.declared.Verdict.{Verdict}
use Rattle.house_history.specs.declared.event.Event.{Event}
use Rattle.house_history.specs.Events.{accepted_in, changes_in}
use Rattle.house_history.specs.Legal.{HasText, Legal}
use Rattle.house_shared.specs.Crew.{AllAt}
use Rattle.lane_work.specs.Account.{Premises, told}
use Rattle.lane_work.specs.Backing.{StandAsTold}
use Rattle.lane_work.specs.Talk.{Judged}
use Rattle.locked_mailbox.specs.Locking.{LockedMailbox}
use Rattle.mailbox.specs.Mailbox.{Message, row_of}
use Rattle.serving_workers.specs.Finished.{Finished}
use Rattle.serving_workers.specs.Leaving.{HaveAppended, HaveConversed, Spoken, Told, WereOver}
use Rattle.settings.specs.Settings.{directory_for}
use Rattle.settings.specs.declared.config.Config.{Config}

-- What its connections were told of is these settings': whose mail is taken, the name that is said, and how large a message may be.
pub record IsSetAs (config : Config) (house : Premises) : Type 0 where
  pub directory : house.directory ≡ directory_for config
  pub host : house.host ≡ config.host.items
  pub max_message : house.max_message ≡ config.max_message

-- The mailbox of this number is as the history leaves it: its messages are those, with their flags, each has the text that was stored under its UID,
-- and it accepted just those copies.
pub record IsAsLeft (history : List Event) (number : ℕ) (locked : LockedMailbox) : Type 0 where
  pub here : locked.mailbox.number ≡ number
  pub rows : map row_of locked.mailbox.messages ≡ rows_of (changes_in number history)
  pub texts : All (λ (message : Message). HasText history number message.uid message.text) locked.mailbox.messages
  pub accepted : locked.mailbox.accepted ≡ accepted_in number history

module _ (house : Premises) (n : ℕ) (finished : Finished) where
  -- Worker n had a line, at which so many connections came in, one after another, with the serials from 0 on. What was spoken on each is a
  -- conversation. Of all copies of this seat just those stand of which these conversations told Stored.
  pub record KeptMail : Type 0 where
    pub line : Told
    pub here : slice_get finished.lines n ≡ Some (Some line)
    pub connections : ℕ
    pub judged : List Judged
    pub spoken : List Spoken
    pub over : WereOver line spoken
    pub conversed : HaveConversed house n connections spoken judged
    pub stand : StandAsTold n finished.front (told judged)

-- Client slot n had so many clients, one after another, with the serials from 0 on, and these copies are what they appended. Of all copies of this
-- seat just those stand of which Stored was told.
pub record KeptAppends (n : ℕ) (finished : Finished) : Type 0 where
  pub clients : ℕ
  pub copies : List (Job × Verdict)
  pub appended : HaveAppended n clients copies
  pub stand : StandAsTold n finished.front copies

pub record HasKept (config : Config) (finished : Finished) : Type 0 where
  pub house : Premises
  pub set : IsSetAs config house
  pub legal : Legal finished.front
  -- Each mailbox is there, and is as the history leaves it.
  pub mailboxes : AllAt (IsAsLeft finished.front) 0 finished.mailboxes.items
  pub each_mailbox : vec_len finished.mailboxes ≡ length (directory_for config).homes
  -- The first of the producers were the workers, and the others the client slots.
  pub mail : (n : ℕ) → n < config.workers → KeptMail house n finished
  pub clients : (n : ℕ) → config.workers ≤ n → n < length finished.channels.items → KeptAppends n finished
