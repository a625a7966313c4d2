-- What the threads left, taken apart.
use Rattle.std.specs.Prelude.{◌≡◌, ◌≤◌, ℕ, not, if◌then◌else◌, List, [], ◌∷◌, map, Option, Some, None, vec_capacity}
use Rattle.lane_work.specs.declared.consumer.Consumed.{Consumed}
use Rattle.lane_work.specs.declared.worker.Fate.{Fate}
use Rattle.lane_work.specs.declared.worker.Fate.TheVariants as fates
use Rattle.lane_work.specs.declared.worker.Worked.{Worked}
use Rattle.reckoning.specs.declared.gather.Fault.{Fault}
use Rattle.reckoning.specs.declared.gather.Fault.TheVariants.{Spawn, NoMemory, Torn}
use Rattle.reckoning.specs.declared.gather.FromWorkers.{FromWorkers}
use Rattle.reckoning.specs.declared.gather.FromConsumers.{FromConsumers}

-- ---- faults

abbrev pub fault_of_fate : Fate → Option Fault
fault_of_fate fates.Whole = None
fault_of_fate fates.NotBegun = Some Spawn
fault_of_fate fates.NoMemory = Some NoMemory
fault_of_fate fates.Torn = Some Torn

-- what a consumer's two tests come to
abbrev pub fault_of_consumer : {B : Type 0} → Consumed B → Option Fault
fault_of_consumer c = if not c.kept then Some NoMemory else if c.torn then Some Torn else None

-- the graver of two
abbrev pub graver : Option Fault → Option Fault → Option Fault
graver (Some Spawn) other = Some Spawn
graver one (Some Spawn) = Some Spawn
graver (Some NoMemory) other = Some NoMemory
graver one (Some NoMemory) = Some NoMemory
graver (Some Torn) other = Some Torn
graver one (Some Torn) = Some Torn
graver None None = None

-- the gravest of these, and of the one that was known before them
abbrev pub gravest : Option Fault → List (Option Fault) → Option Fault
gravest worst [] = worst
gravest worst (one ∷ others) = gravest (graver worst one) others

-- ---- parts

-- these are the producers' parts, in their order
pub record AreWorkers {B : Type 0} (producers : List (Worked B)) (from : FromWorkers B) : Type 0 where
  pub hands : map (λ h. h.items) from.hands.items ≡ map (λ w. w.ended.items) producers
  pub receivers : from.receivers.items ≡ map (λ w. w.receiver) producers
  pub replies : from.replies.items ≡ map (λ w. w.replies) producers
  pub logs : from.logs.items ≡ map (λ w. w.log) producers

-- these are the consumers' parts, in their order
pub record AreConsumers {B : Type 0} (consumers : List (Consumed B)) (from : FromConsumers B) : Type 0 where
  pub permits : from.permits.items ≡ map (λ c. c.permit) consumers
  pub hands : map (λ h. h.items) from.hands.items ≡ map (λ c. c.senders.items) consumers
  pub taken : from.taken.items ≡ map (λ c. c.taken) consumers

-- nothing is there yet, and there is room for so many
pub record IsRoomForWorkers {B : Type 0} (n : ℕ) (from : FromWorkers B) : Type 0 where
  pub hands : (from.hands.items ≡ []) × (n ≤ vec_capacity from.hands)
  pub receivers : (from.receivers.items ≡ []) × (n ≤ vec_capacity from.receivers)
  pub replies : (from.replies.items ≡ []) × (n ≤ vec_capacity from.replies)
  pub logs : (from.logs.items ≡ []) × (n ≤ vec_capacity from.logs)

pub record IsRoomForConsumers {B : Type 0} (n : ℕ) (from : FromConsumers B) : Type 0 where
  pub permits : (from.permits.items ≡ []) × (n ≤ vec_capacity from.permits)
  pub hands : (from.hands.items ≡ []) × (n ≤ vec_capacity from.hands)
  pub taken : (from.taken.items ≡ []) × (n ≤ vec_capacity from.taken)
