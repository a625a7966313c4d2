-- What bodies and proofs say besides: a worker that closes shards before a connection.
use Rattle.std.specs.Prelude.{◌≡◌, ℕ, Bool, ◌<◌, ◌==◌, ◌&&◌, ◌||◌, nat_lt, List, [], length, map, slice_index_or}
use Rattle.std.specs.List.{list_any}
use Rattle.envelope.specs.Names.{Directory, is_shut, marked}
use Rattle.lane_work.specs.declared.desk.Closing.{Closing}
use Rattle.lane_work.specs.declared.desk.Desk.{Desk}
use Rattle.lane_work.specs.declared.desk.Intake.{Intake}
use Rattle.lane_work.specs.Permits.{put_by}

-- the shard is closed just before this connection
abbrev pub is_closed_at : ℕ → ℕ → Closing → Bool
is_closed_at connection shard closing = (closing.connection == connection) && (closing.shard == shard)

-- those shards were marked that these closings close just before this connection, and nothing else is changed
abbrev pub Marks : ℕ → List Closing → Directory → Directory → Type 0
Marks connection closings old new = (new ≡ marked new.shut old) × (length new.shut ≡ length old.shut)
    × ((shard : ℕ) → shard < old.shards → is_shut new shard ≡ (is_shut old shard || list_any (is_closed_at connection shard) closings))

-- what the worker of this number closes
abbrev pub closings_at : {B : Type 0} → Intake B → ℕ → List Closing
closings_at intake number = slice_index_or (map (λ c. c.items) intake.closings.items) number []

-- nothing is put, and nothing is changed but which permits are over
abbrev pub KeepsDesk : {B : Type 0} → Desk B → Desk B → Type 0
KeepsDesk old new = (new.number ≡ old.number) × (new.receiver ≡ old.receiver) × (new.ends ≡ old.ends)
    × (map put_by new.permits.items ≡ map put_by old.permits.items)
    × (new.dispatch ≡ old.dispatch)

-- the shard is closed before an earlier connection
abbrev pub is_closed_before : ℕ → ℕ → Closing → Bool
is_closed_before connection shard closing = nat_lt closing.connection connection && (closing.shard == shard)

-- this is the house's directory as a worker with these closings has it after so many connections
pub record IsMarkedBefore (closings : List Closing) (connection : ℕ) (house own : Directory) : Type 0 where
  pub same : own ≡ marked own.shut house
  pub as_many : length own.shut ≡ own.shards
  pub marks : (shard : ℕ) → shard < house.shards → is_shut own shard ≡ (is_shut house shard || list_any (is_closed_before connection shard) closings)
