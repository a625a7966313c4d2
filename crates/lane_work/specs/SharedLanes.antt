-- Several lanes that threads share, whatever carries their entries, with their permits: lane by lane those that are not dealt yet, producer by
-- producer those that are, and what is left of both when the lanes are closed. `view` and `is_of` are those of the carrier, as for one lane.
use Rattle.std.specs.Prelude.{◌≡◌, ℕ, ◌<◌, suc, List, [], ◌∷◌, ◌++◌, All, Contains}
use Rattle.shard_queue.specs.declared.shared.View.{View}
use Rattle.shard_queue.specs.declared.permits.SharedLane.{SharedLane}
use Rattle.shard_queue.specs.declared.permits.Permit.{Permit}
use Rattle.shard_queue.specs.declared.permits.EndedPermit.{EndedPermit}
use Rattle.shard_queue.specs.declared.permits.ConsumersPermit.{ConsumersPermit}
use Rattle.shard_queue.specs.declared.permits.ClosedLane.{ClosedLane}
use Rattle.shard_queue.specs.SharedLane.{IsPermit, IsEndedPermit, IsConsumersPermit, sent, said, taken, all_taken, number_of, ended_number}
use Rattle.shard_queue.specs.Closing.{IsNotAll, IsWhole}
use Rattle.shard_queue.specs.Lane.{of}

-- ---- lists of what is left of permits

module _ {E : Type 0} where
  -- the i-th of these is in the i-th list
  abbrev pub AreIn : List E → List (List E) → Type 0
  AreIn [] [] = Unit {0}
  AreIn [] (r ∷ rs) = ⊥
  AreIn (e ∷ es) [] = ⊥
  AreIn (e ∷ es) (r ∷ rs) = Contains r e × AreIn es rs

  -- each hand's are in the lists
  abbrev pub AllIn : (hands lists : List (List E)) → Type 0
  AllIn [] lists = Unit {0}
  AllIn (h ∷ hs) lists = AreIn h lists × AllIn hs lists

  -- the lists with each of these at the end of the one at its position
  abbrev pub with_each : (lists : List (List E)) → List E → List (List E)
  with_each [] es = []
  with_each (r ∷ rs) [] = r ∷ rs
  with_each (r ∷ rs) (e ∷ es) = (r ++ e ∷ []) ∷ with_each rs es

  -- and so with each hand, one after another
  abbrev pub with_all : (lists hands : List (List E)) → List (List E)
  with_all lists [] = lists
  with_all lists (h ∷ hs) = with_all (with_each lists h) hs

-- ---- the permits of several lanes

module _ {T C P : Type 0} (view : P → View T) (is_of : C → P → Type 0) where
  -- the permits of this lane's producers from p to the last, none of which has sent anything
  abbrev pub AreLeft : SharedLane C → ℕ → List (Permit P) → Type 0
  AreLeft l p [] = p ≡ l.producers
  AreLeft l p (s ∷ ss) =
      (p < l.producers) × (IsPermit view is_of l s × (number_of s ≡ p) × (sent view s ≡ [])) × AreLeft l (suc p) ss

  -- the same of each lane
  abbrev pub Rows : List (SharedLane C) → ℕ → List (List (Permit P)) → Type 0
  Rows [] p [] = Unit {0}
  Rows [] p (r ∷ rs) = ⊥
  Rows (l ∷ ls) p [] = ⊥
  Rows (l ∷ ls) p (r ∷ rs) = AreLeft l p r × Rows ls p rs

  -- the i-th permit is that of the i-th lane's consumer
  abbrev pub AreConsumers : List (SharedLane C) → List (ConsumersPermit P) → Type 0
  AreConsumers [] [] = Unit {0}
  AreConsumers [] (s ∷ ss) = ⊥
  AreConsumers (l ∷ ls) [] = ⊥
  AreConsumers (l ∷ ls) (s ∷ ss) = IsConsumersPermit view is_of l s × AreConsumers ls ss

  -- the i-th is what is left of producer p's permit on the i-th lane
  abbrev pub AreEnded : List (SharedLane C) → ℕ → List (EndedPermit P) → Type 0
  AreEnded [] p [] = Unit {0}
  AreEnded [] p (e ∷ es) = ⊥
  AreEnded (l ∷ ls) p [] = ⊥
  AreEnded (l ∷ ls) p (e ∷ es) = (IsEndedPermit view is_of l e × (ended_number e ≡ p)) × AreEnded ls p es

  -- the i-th list has ended permits of the i-th lane
  abbrev pub EndedRows : List (SharedLane C) → List (List (EndedPermit P)) → Type 0
  EndedRows [] [] = Unit {0}
  EndedRows [] (r ∷ rs) = ⊥
  EndedRows (l ∷ ls) [] = ⊥
  EndedRows (l ∷ ls) (r ∷ rs) = All (IsEndedPermit view is_of l) r × EndedRows ls rs

  -- each hand has one producer's ended permits on all lanes, from producer p on
  abbrev pub AreEndedHands : List (SharedLane C) → ℕ → List (List (EndedPermit P)) → Type 0
  AreEndedHands lanes p [] = Unit {0}
  AreEndedHands lanes p (h ∷ hs) = AreEnded lanes p h × AreEndedHands lanes (suc p) hs

module _ {T C P H : Type 0} (view : P → View T) (is_of : C → P → Type 0) (held : Permit P → H) where
  -- the i-th is what producer p's permit on the i-th lane is held as, by which nothing was sent
  abbrev pub AreNew : List (SharedLane C) → ℕ → List H → Type 0
  AreNew [] p [] = Unit {0}
  AreNew [] p (h ∷ hs) = ⊥
  AreNew (l ∷ ls) p [] = ⊥
  AreNew (l ∷ ls) p (h ∷ hs) =
      ((s : Permit P) × (h ≡ held s) × IsPermit view is_of l s × (number_of s ≡ p) × (sent view s ≡ [])) × AreNew ls p hs

  -- each hand has those of one producer, from producer p on
  abbrev pub AreHands : List (SharedLane C) → ℕ → List (List H) → Type 0
  AreHands lanes p [] = Unit {0}
  AreHands lanes p (h ∷ hs) = AreNew lanes p h × AreHands lanes (suc p) hs

-- ---- lanes that are closed

module _ {T C P : Type 0} (view : P → View T) (room : SharedLane C → ℕ) where
  -- A lane was closed with these ended permits: all that was put was taken, nobody else put anything, and what was taken of each is what it has
  -- said.
  pub record IsClosedLane (l : SharedLane C) (ended : List (EndedPermit P)) (permit : ConsumersPermit P) (c : ClosedLane P) : Type 0 where
    pub taken : all_taken view c ≡ taken view permit
    pub each : All (λ e. said view e ≡ of (ended_number e) (all_taken view c)) ended
    pub whole : IsWhole l.producers (room l) (all_taken view c)

-- each of the lanes was
pub data AreClosed {T C P : Type 0} (view : P → View T) (room : SharedLane C → ℕ)
    : List (SharedLane C) → List (List (EndedPermit P)) → List (ConsumersPermit P) → List (ClosedLane P) → Type 0 where
  none : AreClosed view room [] [] [] []
  next : {ls : List (SharedLane C)} {rows : List (List (EndedPermit P))} {permits : List (ConsumersPermit P)} {cs : List (ClosedLane P)}
      (l : SharedLane C) (row : List (EndedPermit P)) (permit : ConsumersPermit P) (c : ClosedLane P)
      → IsClosedLane view room l row permit c → AreClosed view room ls rows permits cs
      → AreClosed view room (l ∷ ls) (row ∷ rows) (permit ∷ permits) (c ∷ cs)

-- of some lane an ended permit is missing, or an end wasn't taken
pub data IsTorn {T C P : Type 0} (view : P → View T)
    : List (SharedLane C) → List (List (EndedPermit P)) → List (ConsumersPermit P) → Type 0 where
  here : {ls : List (SharedLane C)} {rows : List (List (EndedPermit P))} {permits : List (ConsumersPermit P)}
      (l : SharedLane C) (row : List (EndedPermit P)) (permit : ConsumersPermit P)
      → IsNotAll ended_number l.producers row (taken view permit) → IsTorn view (l ∷ ls) (row ∷ rows) (permit ∷ permits)
  later : {ls : List (SharedLane C)} {rows : List (List (EndedPermit P))} {permits : List (ConsumersPermit P)}
      (l : SharedLane C) (row : List (EndedPermit P)) (permit : ConsumersPermit P)
      → IsTorn view ls rows permits → IsTorn view (l ∷ ls) (row ∷ rows) (permit ∷ permits)
