-- The lanes of a house's shards with their permits: what is known of several lanes, said of these.
use Rattle.std.specs.Prelude.{ℕ, List}
use Rattle.delivery_token.specs.declared.Job.{Job}
use Rattle.shard_queue.specs.Permits.{ShardQueue, ProducerPermit, Ended, ConsumerPermit, Closed, view, is_of, capacity_of}
use Rattle.lane_work.specs.declared.desk.LanePermit.{LanePermit}
use Rattle.lane_work.specs.declared.desk.LanePermit.TheVariants.{Live}
use Rattle.lane_work.specs.SharedLanes as lanes

-- the permits of each lane's producers from p to the last, none of which has put anything
abbrev pub Rows : List (ShardQueue Job) → ℕ → List (List (ProducerPermit Job)) → Type 0
Rows = lanes.Rows view is_of

-- each hand has the permits of one producer on all lanes, from producer p on, which have put nothing
abbrev pub AreHands : List (ShardQueue Job) → ℕ → List (List (LanePermit Job)) → Type 0
AreHands = lanes.AreHands view is_of (λ permit. Live permit)

-- the i-th permit is the consumer's of the i-th lane
abbrev pub AreConsumers : List (ShardQueue Job) → List (ConsumerPermit Job) → Type 0
AreConsumers = lanes.AreConsumers view is_of

-- the i-th is what is left of producer p's permit on the i-th lane
abbrev pub AreEnded : List (ShardQueue Job) → ℕ → List (Ended Job) → Type 0
AreEnded = lanes.AreEnded view is_of

-- the i-th list has ended permits of the i-th lane
abbrev pub EndedRows : List (ShardQueue Job) → List (List (Ended Job)) → Type 0
EndedRows = lanes.EndedRows view is_of

-- each hand has one producer's ended permits on all lanes, from producer p on
abbrev pub AreEndedHands : List (ShardQueue Job) → ℕ → List (List (Ended Job)) → Type 0
AreEndedHands = lanes.AreEndedHands view is_of

-- each of the lanes was closed
abbrev pub AreClosed : List (ShardQueue Job) → List (List (Ended Job)) → List (ConsumerPermit Job) → List (Closed Job) → Type 0
AreClosed = lanes.AreClosed view capacity_of

-- of some lane an ended permit is missing, or an end wasn't taken
abbrev pub IsTorn : List (ShardQueue Job) → List (List (Ended Job)) → List (ConsumerPermit Job) → Type 0
IsTorn = lanes.IsTorn view
