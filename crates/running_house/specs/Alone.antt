-- What a full lane can tell the producer that finds it so.
use Rattle.std.specs.Prelude.{ℕ, ◌<◌, ◌↔◌, List, map}
use Rattle.delivery_token.specs.declared.Job.{Job}
use Rattle.lane_work.specs.Account.{FilledAlone, Room}
use Rattle.shard_queue.specs.declared.lane.Entry.{Entry}
use Rattle.shard_queue.specs.declared.lane.Entry.TheVariants.{Item}
use Rattle.shard_queue.specs.Permits.{WasFull}

-- A producer that had put just these copies on a lane of this room can have found it full: at one moment as many entries waited as there is room for.
abbrev pub CanBeFull : Room → (seat : ℕ) → List (Entry Job) → Type 0
CanBeFull room seat sent = (seen : List (Entry Job)) × WasFull room.producers room.capacity seat sent seen

-- The lane's only producer had put as many as have room, and that is all: where it had, and of any lane with others, there is a run of the lane in
-- which it was full.
abbrev pub FilledAloneIsAll : Type 0
FilledAloneIsAll = (room : Room) (seat : ℕ) (jobs : List Job) → seat < room.producers
    → FilledAlone room seat (map (λ job. Item seat job) jobs) ↔ CanBeFull room seat (map (λ job. Item seat job) jobs)
