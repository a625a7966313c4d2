-- What contracts see of a report: what a run left.
use Rattle.std.specs.Prelude.{ℕ, List, Vec}
use Rattle.std.specs.Global.{Global}
use Rattle.delivery_token.specs.WorkerLog.{WorkerLog}
use Rattle.delivery_token.specs.Text.{Text}
use Rattle.delivery_token.specs.declared.CopyKey.{CopyKey}
use Rattle.delivery_token.specs.declared.Job.{Job}
use Rattle.delivery_token.specs.declared.log.Noted.{Noted}
use Rattle.house_history.specs.declared.event.Event.{Event}
use Rattle.shard_queue.specs.Permits.{Closed}
use Rattle.shard_queue.specs.Reply.{ReplyClosed}

-- what was taken of each shard's lane, and of each producer's reply channel, to its end
pub record Closes : Type 0 where
  pub lanes : Vec (Closed Job) Global
  pub channels : Vec (ReplyClosed Noted) Global

pub record Report : Type 0 where
  pub replies : Vec (Vec (Vec ℕ Global) Global) Global  -- of each worker, of each of its connections, what was replied
  pub logs : Vec WorkerLog Global  -- of each worker, and behind them of each session, what it heard
  pub accepted : Vec (Vec (CopyKey × ℕ) Global) Global  -- of each mailbox, the copies that it accepted, with their UIDs
  pub texts : Vec (Vec (ℕ × Text) Global) Global  -- and the messages that are there
  pub sessions : Vec (Vec ℕ Global) Global  -- what each session said
  pub closed : Closes
  pub history : List Event  -- how the history begins that all threads shared
