-- What a worker holds.
use Rattle.std.specs.Prelude.{◌≡◌}
use Rattle.lane_work.specs.declared.desk.Desk.{Desk}
use Rattle.lane_work.specs.Permits.{overs}

-- nothing but the permits, and what was said of the copies that were put, is changed, and just those are over that were
abbrev pub SameButPermits : {B : Type 0} → Desk B → Desk B → Type 0
SameButPermits old new = (new.number ≡ old.number) × (new.receiver ≡ old.receiver) × (new.ends ≡ old.ends)
    × (overs new.permits.items ≡ overs old.permits.items)

-- nothing but the receiver, how many ends it has heard, and what is known of the history, is changed
abbrev pub SameButReceiver : {B : Type 0} → Desk B → Desk B → Type 0
SameButReceiver old new = (new.number ≡ old.number) × (new.permits ≡ old.permits)
