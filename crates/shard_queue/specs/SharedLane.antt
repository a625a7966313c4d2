-- What contracts see of a lane that threads share and of its permits, whatever carries the entries: `view` is what a pass knows of the lane, `is_of`
-- whether it is a pass of this carrier.
use Rattle.std.specs.Prelude.{◌≡◌, ℕ, ◌<◌, Bool, true, false, zero, suc, List, [], ◌∷◌, ◌++◌, length, slice_index_or, None}
use Rattle.shard_queue.specs.declared.lane.Entry.{Entry}
use Rattle.shard_queue.specs.declared.shared.View.{View}
use Rattle.shard_queue.specs.declared.permits.SharedLane.{SharedLane}
use Rattle.shard_queue.specs.declared.permits.Permit.{Permit}
use Rattle.shard_queue.specs.declared.permits.EndedPermit.{EndedPermit}
use Rattle.shard_queue.specs.declared.permits.ConsumersPermit.{ConsumersPermit}
use Rattle.shard_queue.specs.declared.permits.ClosedLane.{ClosedLane}
use Rattle.shard_queue.specs.Lane.{of, has_end, Lane, IsMerge}
use Rattle.shard_queue.specs.Shared.{consumer, sender, list_of, seen_of, IsStartOf}

-- n numbers from k on
abbrev pub numbers : ℕ → ℕ → List ℕ
numbers k zero = []
numbers k (suc n) = k ∷ numbers (suc k) n

module _ {T : Type 0} where
  -- at one moment as many entries waited as there is room for, this producer had sent these, and all had been put that it had seen when it last put
  abbrev pub WasFull : ℕ → ℕ → ℕ → List (Entry T) → List (Entry T) → Type 0
  WasFull producers room p sent seen = (l : Lane T) × IsMerge producers room l × (length l.waiting ≡ room) × (l.sent p ≡ sent)
      × IsStartOf seen (l.got ++ l.waiting)

  -- at one moment nothing waited, and these had been taken; so all was taken that the consumer had seen when it last took
  abbrev pub WasEmpty : ℕ → ℕ → List (Entry T) → List (Entry T) → Type 0
  WasEmpty producers room got seen = (l : Lane T) × IsMerge producers room l × (l.waiting ≡ []) × (l.got ≡ got) × IsStartOf seen got

  -- where an end was taken there is a mark, and nowhere else
  abbrev pub AreMarks : ℕ → List Bool → List (Entry T) → Type 0
  AreMarks producers marks got = (p : ℕ) → p < producers → slice_index_or marks p false ≡ has_end (of p got)

  -- the entry was put behind all that had been seen, and is the last that is seen now
  abbrev pub IsPutBehind : List (Entry T) → Entry T → List (Entry T) → Type 0
  IsPutBehind old e new = (before : List (Entry T)) × (new ≡ before ++ e ∷ []) × IsStartOf old before

  -- what is seen now is all that was taken and what was left behind it, and goes on from what had been seen
  abbrev pub IsLeftBy : List (Entry T) → List (Entry T) → List (Entry T) → Type 0
  IsLeftBy old got new = (others : List (Entry T)) × (new ≡ got ++ others) × IsStartOf old (got ++ others)

module _ {P : Type 0} where
  abbrev pub number_of : Permit P → ℕ
  number_of s = s.number

  abbrev pub ended_number : EndedPermit P → ℕ
  ended_number s = s.number

module _ {T P : Type 0} (view : P → View T) where
  -- what the producer of this permit has sent
  abbrev pub sent : Permit P → List (Entry T)
  sent s = list_of (view s.pass)

  -- all that it has sent, its end included
  abbrev pub said : EndedPermit P → List (Entry T)
  said s = list_of (view s.pass)

  -- what the consumer has taken
  abbrev pub taken : ConsumersPermit P → List (Entry T)
  taken s = list_of (view s.pass)

  -- all that had been put when this producer last put, that entry included
  abbrev pub put_seen : Permit P → List (Entry T)
  put_seen s = seen_of (view s.pass)

  -- the same when it put its end
  abbrev pub end_seen : EndedPermit P → List (Entry T)
  end_seen s = seen_of (view s.pass)

  -- all that had been put when the consumer last took
  abbrev pub take_seen : ConsumersPermit P → List (Entry T)
  take_seen s = seen_of (view s.pass)

  -- all that was taken before the lane was closed
  abbrev pub all_taken : ClosedLane P → List (Entry T)
  all_taken c = list_of (view c.pass)

  module _ {C : Type 0} (is_of : C → P → Type 0) where
    -- the permit of a producer of this lane that may put more
    abbrev pub IsPermit : SharedLane C → Permit P → Type 0
    IsPermit l s = is_of l.carrier s.pass × (view s.pass ≡ sender l.producers s.number (sent s) (put_seen s)) × (has_end (sent s) ≡ false)

    -- what is left of such a permit after its end
    abbrev pub IsEndedPermit : SharedLane C → EndedPermit P → Type 0
    IsEndedPermit l s = is_of l.carrier s.pass × (view s.pass ≡ sender l.producers s.number (said s) (end_seen s)) × (has_end (said s) ≡ true)

    -- the permit of this lane's consumer
    abbrev pub IsConsumersPermit : SharedLane C → ConsumersPermit P → Type 0
    IsConsumersPermit l s = is_of l.carrier s.pass × (view s.pass ≡ consumer l.producers l.producers (taken s) None (take_seen s))
        × AreMarks l.producers s.ended (taken s)
