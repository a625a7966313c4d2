-- A lane that threads share. Each permit knows a part of it; the rule is that there is one lane of which all that is true, and that it is a merge.
use Rattle.std.specs.Prelude.{◌+◌, ◌≡◌, ℕ, suc, ◌<◌, ◌≤◌, true, false, List, [], ◌∷◌, ◌++◌, length, Option, Some, None, ⊤}
use mathlib.Core.Option.{some}
use lib.ListN.{get_elem?}
use Rattle.shard_queue.specs.declared.lane.Entry.{Entry}
use Rattle.shard_queue.specs.declared.shared.View.{View}
use Rattle.shard_queue.specs.declared.shared.View.TheVariants as views
use Rattle.shard_queue.specs.Lane.{producer, of, has_end, Lane, EndsLast, IsMerge}

module _ {T : Type 0} where
  -- these were put first, and then perhaps more
  abbrev pub IsStartOf : List (Entry T) → List (Entry T) → Type 0
  IsStartOf first all = (more : List (Entry T)) × (all ≡ first ++ more)

  -- a consumer that has taken `got`, of a lane with so many producers, of which so many have their permits; `heard` is the producer that was heard
  -- out last with what it sent; `seen` is all that had been put when it last took
  abbrev pub consumer : ℕ → ℕ → List (Entry T) → Option (ℕ × List (Entry T)) → List (Entry T) → View T
  consumer producers made got heard seen = views.Consumer producers made got heard seen

  -- producer p, which has sent these entries, of a lane with so many producers; `seen` is all that had been put when it last put
  abbrev pub sender : ℕ → ℕ → List (Entry T) → List (Entry T) → View T
  sender producers p sent seen = views.Producer producers p sent seen

  abbrev pub spent : View T
  spent = views.Spent

  -- what the permit has sent or taken
  abbrev pub list_of : View T → List (Entry T)
  list_of (views.Consumer producers made got heard seen) = got
  list_of (views.Producer producers p sent seen) = sent
  list_of views.Spent = []

  -- all that had been put in the lane when the permit last put or took, that entry included
  abbrev pub seen_of : View T → List (Entry T)
  seen_of (views.Consumer producers made got heard seen) = seen
  seen_of (views.Producer producers p sent seen) = seen
  seen_of views.Spent = []

  -- the consumer has the first permit, then come as many of no use as there are producers, and then theirs
  abbrev pub HasPosition : ℕ → View T → Type 0
  HasPosition position (views.Consumer producers made got heard seen) = position ≡ 0
  HasPosition position (views.Producer producers p sent seen) = position ≡ suc (producers + p)
  HasPosition position views.Spent = ⊤

  -- a producer that was heard out has sent this, its end included
  abbrev pub KnowsHeard : Lane T → Option (ℕ × List (Entry T)) → Type 0
  KnowsHeard l None = ⊤
  KnowsHeard l (Some h) = (h.1 ≡ l.sent h.0) × (has_end h.1 ≡ true)

  -- what a permit knows is true of this lane, which has so many producers, of which so many have their permits
  abbrev pub Knows : ℕ → ℕ → Lane T → View T → Type 0
  Knows producers made l (views.Consumer n m got heard seen) = (n ≡ producers) × (m ≡ made) × (got ≡ l.got) × KnowsHeard l heard
      × IsStartOf seen (l.got ++ l.waiting)
  Knows producers made l (views.Producer n p sent seen) = (n ≡ producers) × (sent ≡ l.sent p) × IsStartOf seen (l.got ++ l.waiting)
  Knows producers made l views.Spent = ⊤

-- These entries wait in the lane, and all permits, by their positions, know what is true of it.
pub record IsShared {T : Type 0} (producers made : ℕ) (l : Lane T) (waiting : List (Entry T)) (permits : List (View T)) : Type 0 where
  pub waits : l.waiting ≡ waiting
  pub merge : IsMerge producers (length waiting) l
  pub permitted : made ≤ producers
  pub silent : (p : ℕ) → made ≤ p → l.sent p ≡ []
  pub positions : length permits ≡ suc (producers + made)
  pub known : (position : ℕ) (v : View T) → get_elem? permits position ≡ some v → HasPosition position v × Knows producers made l v

module _ {T : Type 0} where
  -- the rule: there is such a lane
  abbrev pub IsSharedBy : List (Entry T) → List (View T) → Type 0
  IsSharedBy waiting permits = (producers : ℕ) × (made : ℕ) × (l : Lane T) × IsShared producers made l waiting permits

  -- what the consumer has taken and then what waits is, of each producer, what its permit has sent; each entry is a producer's, and nothing follows
  -- an end
  abbrev pub PermitsMerge : List (Entry T) → List (View T) → Type 0
  PermitsMerge waiting permits = (producers made : ℕ) (got : List (Entry T)) (heard : Option (ℕ × List (Entry T))) (seen : List (Entry T))
      → get_elem? permits 0 ≡ some (consumer producers made got heard seen)
      → (p : ℕ) → ((position : ℕ) (sent seen : List (Entry T)) → get_elem? permits position ≡ some (sender producers p sent seen)
      → of p (got ++ waiting) ≡ sent)
      × (producers ≤ p → of p (got ++ waiting) ≡ []) × EndsLast (of p (got ++ waiting))

  -- what a permit learns at one moment, when these entries wait
  abbrev pub Saw : View T → List (Entry T) → Type 0
  Saw v waiting = (producers : ℕ) × (made : ℕ) × (l : Lane T) × (l.waiting ≡ waiting) × IsMerge producers (length waiting) l
      × Knows producers made l v

  -- what a put makes of the producer's permit: it goes behind all that had been put before
  abbrev pub Puts : View T → Entry T → View T → Type 0
  Puts (views.Consumer producers made got heard seen) e w = ⊥
  Puts (views.Producer producers p sent seen) e w = (before : List (Entry T)) × (w ≡ views.Producer producers p (sent ++ e ∷ []) (before ++ e ∷ []))
      × IsStartOf seen before
  Puts views.Spent e w = ⊥

  -- what a take makes of the consumer's permit: the entry is of one of the lane's producers, and these others stood behind it
  abbrev pub Takes : View T → Entry T → View T → Type 0
  Takes (views.Consumer producers made got heard seen) e w = (producer e < producers)
      × ((others : List (Entry T)) × (w ≡ views.Consumer producers made (got ++ e ∷ []) heard ((got ++ e ∷ []) ++ others))
      × IsStartOf seen ((got ++ e ∷ []) ++ others))
  Takes (views.Producer producers p sent seen) e w = ⊥
  Takes views.Spent e w = ⊥

  -- there will be one more producer: the consumer's permit, and one of no use
  abbrev pub announcing : View T → View T
  announcing (views.Consumer producers made got heard seen) = views.Consumer (suc producers) made got heard seen
  announcing (views.Producer producers p sent seen) = views.Producer producers p sent seen
  announcing views.Spent = views.Spent

  abbrev pub announced : View T → View T
  announced v = views.Spent

  -- the next producer gets its permit: the consumer's, and the new one
  abbrev pub hiring : View T → View T
  hiring (views.Consumer producers made got heard seen) = views.Consumer producers (suc made) got heard seen
  hiring (views.Producer producers p sent seen) = views.Producer producers p sent seen
  hiring views.Spent = views.Spent

  abbrev pub hired : View T → View T
  hired (views.Consumer producers made got heard seen) = views.Producer producers made [] []
  hired (views.Producer producers p sent seen) = views.Spent
  hired views.Spent = views.Spent

  -- the consumer's permit after it has taken in a producer's
  abbrev pub heard_out : View T → View T → View T
  heard_out (views.Consumer producers made got heard seen) (views.Producer n p sent late) = views.Consumer producers made got (Some (p, sent)) seen
  heard_out v w = v

  -- the view of a producer of so many that has not ended and may put this entry
  abbrev pub MayPut : ℕ → Entry T → View T → Type 0
  MayPut producers e v = (v ≡ sender producers (producer e) (list_of v) (seen_of v)) × (has_end (list_of v) ≡ false)

  -- nothing was put, since at one moment as many entries waited as there is room for
  abbrev pub FoundFull : ℕ → View T → View T → Type 0
  FoundFull room old new = (new ≡ old) × ((waiting : List (Entry T)) × (length waiting ≡ room) × Saw old waiting)
