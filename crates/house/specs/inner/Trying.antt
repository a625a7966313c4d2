-- What the parts of settling promise: for each scene for which the house stood, what was tried leads to one for which it stands now; or
-- nothing was there to do, and all is as it was.
use Rattle.std.specs.Prelude.{◌≡◌, ℕ, ◌<◌, ◌≤◌, ◌++◌, Bool, true, false, not, List, [], ◌∷◌, map, filter, All, Result, Ok, Err}
use Rattle.std.specs.List.{range_with_len}
use Rattle.house.specs.declared.event.Event.{Event}
use Rattle.house.specs.declared.event.Event.TheVariants.{Bytes, Vanish, Put, Take, Deliver, Answer, Hear, End, Close, Enter, Say, Idle, Leave}
use Rattle.house.specs.Effort.{effort}
use Rattle.house.specs.Setup.{Setup}
use Rattle.house.specs.Scene.{HasNothing, Scene}
use Rattle.house.specs.Settling.{BreaksOff, InTurn, Stint, StintBreaksOff, Stints, StintsBreakOff, Tries, TurnBreaksOff, ends_on}
use Rattle.house.specs.Stands.{StandsFor}
use Rattle.house.specs.House.{House}

-- what the house does by itself in a round: not what a peer or an operator does, and no turn of a session that idles
abbrev pub IsOwn : Event → Type 0
IsOwn (Bytes connection piece) = ⊥
IsOwn (Vanish connection) = ⊥
IsOwn (Close shard) = ⊥
IsOwn (Enter session user) = ⊥
IsOwn (Say session piece) = ⊥
IsOwn (Idle session) = ⊥
IsOwn (Leave session) = ⊥
IsOwn (Put connection) = Unit {0}
IsOwn (End connection shard) = Unit {0}
IsOwn (Take shard) = Unit {0}
IsOwn (Deliver shard) = Unit {0}
IsOwn (Answer shard) = Unit {0}
IsOwn (Hear connection) = Unit {0}

-- there is such a connection, such a shard, or such a session
abbrev pub IsAmong : Setup → Event → Type 0
IsAmong k (Bytes connection piece) = ⊥
IsAmong k (Vanish connection) = ⊥
IsAmong k (Close shard) = ⊥
IsAmong k (Enter session user) = ⊥
IsAmong k (Say session piece) = ⊥
IsAmong k (Leave session) = ⊥
IsAmong k (Idle session) = (0 < session) × (session ≤ k.config.sessions)
IsAmong k (Put connection) = (0 < connection) × (connection ≤ k.config.seats)
IsAmong k (End connection shard) = (0 < connection) × (connection ≤ k.config.seats) × (shard < k.config.shards)
IsAmong k (Take shard) = shard < k.config.shards
IsAmong k (Deliver shard) = shard < k.config.shards
IsAmong k (Answer shard) = shard < k.config.shards
IsAmong k (Hear connection) = (0 < connection) × (connection ≤ k.config.seats)

-- the stints of a round: each seat ends on each shard that is shut, each connection puts, each shard that isn't held serves, each connection hears
abbrev pub ends : (seats shard : ℕ) → List (List Event)
ends seats shard = map (λ n. End n shard ∷ []) (range_with_len 1 seats)

-- the ends on one shard: none where it isn't shut
abbrev pub ends_where : (seats shard : ℕ) → Bool → List (List Event)
ends_where seats shard true = ends seats shard
ends_where seats shard false = []

abbrev pub closes : ℕ → (ℕ → Bool) → ℕ → List (List Event)
closes seats shut shards = ends_on seats (filter shut (range_with_len 0 shards))

abbrev pub puts : ℕ → List (List Event)
puts seats = map (λ n. Put n ∷ []) (range_with_len 1 seats)

abbrev pub serves : (ℕ → Bool) → ℕ → List (List Event)
serves held shards = map (λ s. Take s ∷ Deliver s ∷ Answer s ∷ []) (filter (λ s. not (held s)) (range_with_len 0 shards))

abbrev pub hears : ℕ → List (List Event)
hears seats = map (λ n. Hear n ∷ []) (range_with_len 1 seats)

-- the stints of one shard: none where it is held
abbrev pub serve : ℕ → Bool → List (List Event)
serve shard true = []
serve shard false = (Take shard ∷ Deliver shard ∷ Answer shard ∷ []) ∷ []

-- some way leads from the scene to one for which the house stands, and what was appended is what it prints
pub record Went (P : Setup → Scene → Scene → List ℕ → Type 0) (k : Setup) (s : Scene) (h : House) (old new : List ℕ) : Type 0 where
  pub after : Scene
  pub printed : List ℕ
  pub goes : P k s after printed
  pub stands : StandsFor k h after
  pub out : new ≡ old ++ printed

-- the same for each scene for which the house stood
abbrev pub Goes : (Setup → Type 0) → (Setup → Scene → Scene → List ℕ → Type 0) → House → List ℕ → House → List ℕ → Type 0
Goes Q P before old h new = (k : Setup) (s : Scene) → Q k → StandsFor k before s → Went P k s h old new

-- something happened, and less is left to do
pub record Moved (Q : Setup → Type 0) (P : Setup → Scene → Scene → List ℕ → Type 0) (before : House) (old : List ℕ) (h : House)
    (new : List ℕ) : Type 0 where
  pub went : (k : Setup) (s : Scene) → Q k → StandsFor k before s → Went P k s h old new
  pub less : effort h < effort before

-- nothing was there to do
pub record Rests (Q : Setup → Type 0) (I : Setup → Scene → Type 0) (before : House) (old : List ℕ) (h : House) (new : List ℕ) : Type 0 where
  pub same : h ≡ before
  pub silent : new ≡ old
  pub changes_nothing : (k : Setup) (s : Scene) → Q k → StandsFor k before s → I k s

-- memory was wanting: what happened by then stands
pub record Wants (Q : Setup → Type 0) (B : Setup → Scene → Scene → List ℕ → Type 0) (before : House) (old : List ℕ) (h : House)
    (new : List ℕ) : Type 0 where
  pub broke_off : (k : Setup) (s : Scene) → Q k → StandsFor k before s → Went B k s h old new

-- what came of trying: whether something happened
abbrev pub Did : (Setup → Type 0) → (Setup → Scene → Scene → List ℕ → Type 0) → (Setup → Scene → Type 0) → House → List ℕ → House → List ℕ → Bool
    → Type 0
Did Q P I before old h new true = Moved Q P before old h new
Did Q P I before old h new false = Rests Q I before old h new

abbrev pub Came : {E : Type 0} → (Setup → Type 0) → (P B : Setup → Scene → Scene → List ℕ → Type 0) → (Setup → Scene → Type 0) → House → List ℕ
    → House → List ℕ → Result Bool E → Type 0
Came Q P B I before old h new (Ok moved) = Did Q P I before old h new moved
Came Q P B I before old h new (Err e) = Wants Q B before old h new

-- what came of trying an event, some events in turn, and a stint
abbrev pub CameOne : {E : Type 0} → Event → House → List ℕ → House → List ℕ → Result Bool E → Type 0
CameOne event before old h new r =
    Came (λ k. IsAmong k event) (λ k s t printed. Tries k s event t printed) (λ k s t printed. BreaksOff k s event t printed)
    (λ k s. HasNothing k s event) before old h new r

abbrev pub CameInTurn : {E : Type 0} → List Event → House → List ℕ → House → List ℕ → Result Bool E → Type 0
CameInTurn group before old h new r =
    Came (λ k. All (IsAmong k) group) (λ k s t printed. InTurn k group s t printed) (λ k s t printed. TurnBreaksOff k group s t printed)
    (λ k s. All (HasNothing k s) group) before old h new r

abbrev pub CameStint : {E : Type 0} → List Event → House → List ℕ → House → List ℕ → Result Bool E → Type 0
CameStint group before old h new r =
    Came (λ k. All (IsAmong k) group) (λ k s t printed. Stint k group s t printed) (λ k s t printed. StintBreaksOff k group s t printed)
    (λ k s. All (HasNothing k s) group) before old h new r

-- what came of stints one after another
abbrev pub DidStints : (Setup → Type 0) → (Setup → List (List Event)) → House → List ℕ → House → List ℕ → Bool → Type 0
DidStints Q groups before old h new moved =
    Did Q (λ k s t printed. Stints k (groups k) s t printed) (λ k s. All (λ group. All (HasNothing k s) group) (groups k)) before old h new moved

abbrev pub WantsStints : (Setup → Type 0) → (Setup → List (List Event)) → House → List ℕ → House → List ℕ → Type 0
WantsStints Q groups before old h new = Wants Q (λ k s t printed. StintsBreakOff k (groups k) s t printed) before old h new

abbrev pub CameStints : {E : Type 0} → (Setup → Type 0) → (Setup → List (List Event)) → House → List ℕ → House → List ℕ → Result Bool E → Type 0
CameStints Q groups before old h new (Ok moved) = DidStints Q groups before old h new moved
CameStints Q groups before old h new (Err e) = WantsStints Q groups before old h new
