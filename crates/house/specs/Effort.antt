-- How much is left to do before nothing moves: bytes that wait to be taken, copies that are to be put, and what the delivery side has before it, the
-- ends that seats have not put yet among it.
use Rattle.std.specs.Prelude.{◌≡◌, ℕ, ◌+◌, ◌-◌, ◌<◌, Option, Some, None, slice_index_or, sum_by}
use Rattle.delivery_core.specs.Changes.{Ends}
use Rattle.delivery_core.specs.DeliveryCore.{behind}
use Rattle.delivery_core.specs.Load.{load}
use Rattle.house.specs.declared.event.Event.{Event}
use Rattle.house.specs.declared.event.Event.TheVariants.{Bytes, Vanish, Put, Take, Deliver, Answer, Hear, End, Close, Enter, Say, Idle, Leave}
use Rattle.house_peers.specs.HouseConnection.{HouseConnection}
use Rattle.house.specs.House.{House}
use Rattle.house_peers.specs.Taking.{line_effort}
use Rattle.house.specs.Scene.{place_of}
use Rattle.house_peers.specs.SeatedSession.{SeatedSession, seat_effort}

abbrev pub caller_effort : Option HouseConnection → ℕ
caller_effort None = 0
caller_effort (Some h) = line_effort h

abbrev pub visitor_effort : Option SeatedSession → ℕ
visitor_effort None = 0
visitor_effort (Some p) = seat_effort p

abbrev pub effort : House → ℕ
effort h = sum_by caller_effort h.callers + (sum_by visitor_effort h.visitors + load h.core)

-- the same of a session's turns while it idles: it may end, and so many changes it is behind its mailbox's log
abbrev pub turns_left : Option SeatedSession → ℕ → ℕ
turns_left None behind = 0
turns_left (Some p) behind = 1 + behind

abbrev pub idle_effort : ℕ → House → ℕ
idle_effort place h = turns_left (slice_index_or h.visitors place None) (behind h.core place)

-- what the house does by itself makes it less; and an end that was put stands in its lane, where it stood not
abbrev pub MakesLess : Event → House → House → Type 0
MakesLess (Bytes connection piece) old new = Unit {0}
MakesLess (Vanish connection) old new = Unit {0}
MakesLess (End number shard) old new = Ends old.core new.core (number - 1) shard × (effort new < effort old)
MakesLess (Close shard) old new = effort new ≡ effort old
MakesLess (Enter session user) old new = Unit {0}
MakesLess (Say session piece) old new = Unit {0}
MakesLess (Idle session) old new = idle_effort (place_of session) new < idle_effort (place_of session) old
MakesLess (Leave session) old new = Unit {0}
MakesLess (Put number) old new = effort new < effort old
MakesLess (Take shard) old new = effort new < effort old
MakesLess (Deliver shard) old new = effort new < effort old
MakesLess (Answer shard) old new = effort new < effort old
MakesLess (Hear number) old new = effort new < effort old
