-- What one worker's thread says.
use Rattle.std.specs.Prelude.{◌≡◌, ℕ, List, map}
use Rattle.delivery_token.specs.declared.log.Noted.{Noted}
use Rattle.shard_queue.specs.Reply.{ReplyChannel}
use Rattle.shard_queue.specs.Reply.{IsReceiver, received}
use Rattle.shard_queue.specs.Permits.{said}
use Rattle.lane_work.specs.declared.desk.Intake.{Intake}
use Rattle.lane_work.specs.declared.worker.Worked.{Worked}
use Rattle.lane_work.specs.declared.worker.Fate.TheVariants.{Whole}
use Rattle.lane_work.specs.Account.{Account}
use Rattle.lane_work.specs.Permits.{AreEnded}
use Rattle.lane_work.specs.Speaking.{premises_of}

-- Its ended permits are its own on each lane, its receiver is of its channel, and where it went through its connections, this is its account of them.
abbrev pub IsWorked : {B : Type 0} → Intake B → ReplyChannel Noted → ℕ → List (List ℕ) → Worked B → Type 0
IsWorked intake channel seat connections w =
    AreEnded intake.lanes.items seat w.ended.items × IsReceiver channel w.receiver × (w.log.seat ≡ seat)
    × (w.fate ≡ Whole → Account (premises_of intake) seat connections (map (λ b. b.items) w.replies.items) w.log.notes (received w.receiver)
    (map said w.ended.items))
