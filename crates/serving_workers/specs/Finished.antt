-- What contracts see of what a house came to in which nothing went amiss.
use Rattle.std.specs.Prelude.{List, None, Option, Some, Vec}
use Rattle.std.specs.Global.{Global}
use Rattle.delivery_token.specs.declared.Job.{Job}
use Rattle.delivery_token.specs.declared.log.Noted.{Noted}
use Rattle.house_history.specs.declared.event.Event.{Event}
use Rattle.locked_mailbox.specs.Locking.{LockedMailbox}
use Rattle.serving_workers.specs.Leaving.{Told}
use Rattle.shard_queue.specs.Permits.{Closed}
use Rattle.shard_queue.specs.Reply.{ReplyClosed}

-- What was taken of each shard's lane and of each producer's reply channel, the mailboxes out of their locks, how the house's history begins; and of
-- each producer what its line tells, if it is a worker.
pub record Finished : Type 0 where
  pub lanes : Vec (Closed Job) Global
  pub channels : Vec (ReplyClosed Noted) Global
  pub mailboxes : Vec LockedMailbox Global
  pub front : List Event
  pub lines : List (Option Told)

-- what the line tells, if there is one
abbrev pub told_of : {L : Type 0} → (L → Told) → Option L → Option Told
told_of told None = None
told_of told (Some line) = Some (told line)
