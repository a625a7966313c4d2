-- That a producer hears the verdicts on the copies that it put, and no others.
use Rattle.std.specs.Prelude.{◌≡◌, ℕ, ◌+◌, List, length, map, sum_by}
use Rattle.delivery_token.specs.declared.Job.{Job}
use Rattle.delivery_token.specs.declared.log.Noted.{Noted}
use Rattle.shard_queue.specs.declared.lane.Entry.{Entry}
use Rattle.shard_queue.specs.Reply.{received}
use Rattle.lane_work.specs.declared.desk.Desk.{Desk}
use Rattle.lane_work.specs.Consuming.{items_of}
use Rattle.lane_work.specs.Permits.{put_by}

-- how many verdicts are among these entries
abbrev pub verdicts_in : List (Entry Noted) → ℕ
verdicts_in heard = length (items_of heard)

-- how many copies were put on all lanes together
abbrev pub copies_in : List (List (Entry Job)) → ℕ
copies_in lanes = sum_by (λ (entries : List (Entry Job)). length (items_of entries)) lanes

-- Between these two moments as many verdicts were heard as copies were put: each verdict was awaited, and none is awaited still.
abbrev pub HearsItsOwn : {B : Type 0} → Desk B → Desk B → Type 0
HearsItsOwn old new = verdicts_in (received new.receiver) + copies_in (map put_by old.permits.items)
    ≡ verdicts_in (received old.receiver) + copies_in (map put_by new.permits.items)
