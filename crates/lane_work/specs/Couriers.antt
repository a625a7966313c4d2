-- A session's way to the lanes.
use Rattle.std.specs.Prelude.{◌≡◌, ℕ, List, length, map}
use Rattle.workers_sync.specs.Carried.{Carried, judged_of}
use Rattle.delivery_token.specs.declared.Job.{Job}
use Rattle.delivery_token.specs.declared.Verdict.{Verdict}
use Rattle.delivery_token.specs.declared.log.Noted.{Noted}
use Rattle.shard_queue.specs.Reply.{ReplyChannel, IsReceiver, received}
use Rattle.lane_work.specs.declared.desk.Desk.{Desk}
use Rattle.lane_work.specs.declared.desk.Intake.{Intake}
use Rattle.lane_work.specs.Account.{AreBooksOf, rooms_of}
use Rattle.lane_work.specs.Backing.{KeepsBacked}
use Rattle.lane_work.specs.Ends.{CountsEnds}
use Rattle.lane_work.specs.Permits.{AreLive, ArePermits, put_by}

-- the desk's permits are its own on each lane, and none is over; its receiver is of this channel
abbrev pub IsReady : {B : Type 0} → Intake B → ReplyChannel Noted → Desk B → Type 0
IsReady intake channel desk = ArePermits intake.lanes.items desk.number desk.permits.items × IsReceiver channel desk.receiver
    × (intake.directory.shards ≡ length intake.lanes.items) × AreLive desk.permits.items

-- It is the same producer's desk, over the same lanes and channel, it counted no end that it didn't hear, and the house's history has what it put and
-- heard since as it had what was before.
abbrev pub IsSameDesk : {B : Type 0} → Intake B → Intake B → ReplyChannel Noted → ReplyChannel Noted → Desk B → Desk B → Type 0
IsSameDesk intake then channel later first now = (then ≡ intake) × (later ≡ channel) × (now.number ≡ first.number) × CountsEnds first now
    × KeepsBacked first now

-- the books of the desk, and what is kept, tell of just these messages of this session, and of the verdicts on them
abbrev pub HasCarried : {B : Type 0} → Intake B → Desk B → ℕ → (List (Job × Verdict) → Type 0) → List Carried → Type 0
HasCarried intake desk serial keeps done =
    AreBooksOf intake.directory (rooms_of intake.lanes.items) desk.number (map (judged_of desk.number serial) done) keeps (received desk.receiver)
    (map put_by desk.permits.items)
