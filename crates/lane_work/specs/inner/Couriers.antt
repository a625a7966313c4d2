-- What bodies and proofs say besides: what a session's way to the lanes carried between two moments.
use Rattle.std.specs.Prelude.{◌++◌, ℕ, List, map}
use Rattle.workers_sync.specs.Carried.{Carried, judged_of}
use Rattle.delivery_token.specs.declared.Job.{Job}
use Rattle.delivery_token.specs.declared.Verdict.{Verdict}
use Rattle.shard_queue.specs.Reply.{received}
use Rattle.lane_work.specs.Account.{AreBooksOf, rooms_of}
use Rattle.lane_work.specs.Permits.{put_by}
use Rattle.lane_work.specs.declared.desk.Desk.{Desk}
use Rattle.lane_work.specs.declared.desk.Intake.{Intake}

-- Between these two moments the desk carried these messages of this session, and no others: whatever copies its books told of before, they tell of
-- these behind them, and of the verdicts on them. What is noted besides isn't asked.
abbrev pub CarriesOn : {B : Type 0} → Intake B → ℕ → Desk B → List Carried → Desk B → Type 0
CarriesOn intake serial old carried new =
    (copies : List (Job × Verdict))
    → AreBooksOf intake.directory (rooms_of intake.lanes.items) old.number copies (λ told. Unit {0}) (received old.receiver)
    (map put_by old.permits.items)
    → AreBooksOf intake.directory (rooms_of intake.lanes.items) old.number (copies ++ map (judged_of old.number serial) carried) (λ told. Unit {0})
    (received new.receiver) (map put_by new.permits.items)
