-- How the house settles: each actor in turn does what it has to do, over and over until nobody has anything to do; then the sessions that idle
-- are shown what is new.
use Rattle.std.specs.Prelude.{◌≡◌, ℕ, Bool, true, false, not, List, [], ◌∷◌, ◌++◌, map, filter, replicate, flat_map, All}
use Rattle.std.specs.List.{range_with_len}
use Rattle.house.specs.declared.event.Event.{Event}
use Rattle.house.specs.declared.event.Event.TheVariants.{Put, Take, Deliver, Answer, Hear, End, Idle}
use Rattle.house.specs.Setup.{Setup}
use Rattle.house.specs.AnyScene as any
use Rattle.house.specs.LmtpAndImap.{lmtp_and_imap}
use Rattle.house.specs.Scene.{HasNothing, Plays, Scene, is_shut_in}

module _ (k : Setup) where
  -- the event happens, or it has nothing to do
  pub data Tries (s : Scene) (e : Event) (t : Scene) (printed : List ℕ) : Type 0 where
    happens : Plays k true s e t printed → Tries s e t printed
    passes : HasNothing k s e → t ≡ s → printed ≡ [] → Tries s e t printed

  -- some events are tried, one after another
  abbrev pub InTurn : List Event → Scene → Scene → List ℕ → Type 0
  InTurn [] s t printed = (t ≡ s) × (printed ≡ [])
  InTurn (e ∷ es) s t printed = (m : Scene) × (one : List ℕ) × (two : List ℕ) × Tries s e m one × InTurn es m t two × (printed ≡ one ++ two)

-- the lists in a row
abbrev pub in_a_row : {A : Type 0} → List (List A) → List A
in_a_row groups = flat_map (λ g. g) groups

module _ (k : Setup) where
  -- the events of a stint are tried over and over, until none of them has anything to do
  pub record Stint (group : List Event) (s t : Scene) (printed : List ℕ) : Type 0 where
    pub times : ℕ
    pub goes : InTurn k (in_a_row (replicate times group)) s t printed
    pub done : All (HasNothing k t) group

  -- stints one after another
  abbrev pub Stints : List (List Event) → Scene → Scene → List ℕ → Type 0
  Stints [] s t printed = (t ≡ s) × (printed ≡ [])
  Stints (group ∷ groups) s t printed = (m : Scene) × (one : List ℕ) × (two : List ℕ) × Stint group s m one × Stints groups m t two
      × (printed ≡ one ++ two)

-- each seat from 1, whoever stands there, ends on each of these shards
abbrev pub ends_on : ℕ → List ℕ → List (List Event)
ends_on seats shards = flat_map (λ shard. map (λ n. End n shard ∷ []) (range_with_len 1 seats)) shards

-- A round, in which these shards are shut: each seat ends on each of them, where it hasn't; each connection from 1, and each session behind them,
-- puts its copies; each shard from 0 that isn't held takes, delivers and answers; each connection and each session hears its verdicts.
abbrev pub round : Setup → (held shut : ℕ → Bool) → List (List Event)
round k held shut = ends_on k.config.seats (filter shut (range_with_len 0 k.config.shards))
    ++ map (λ n. Put n ∷ []) (range_with_len 1 k.config.seats)
    ++ map (λ s. Take s ∷ Deliver s ∷ Answer s ∷ []) (filter (λ s. not (held s)) (range_with_len 0 k.config.shards))
    ++ map (λ n. Hear n ∷ []) (range_with_len 1 k.config.seats)

module _ (k : Setup) where
  -- rounds, until nothing moves
  pub record GoesRounds (held : ℕ → Bool) (s t : Scene) (printed : List ℕ) : Type 0 where
    pub rounds : ℕ
    pub goes : Stints k (in_a_row (replicate rounds (round k held (is_shut_in s)))) s t printed
    pub done : All (λ group. All (HasNothing k t) group) (round k held (is_shut_in s))

-- each session from 1 that idles has turns, until it has nothing to be shown
abbrev pub idle_turns : ℕ → List (List Event)
idle_turns sessions = map (λ n. Idle n ∷ []) (range_with_len 1 sessions)

module _ (k : Setup) where
  -- rounds, until nothing moves, and then the turns of the sessions that idle
  pub record Settles (held : ℕ → Bool) (s t : Scene) (printed : List ℕ) : Type 0 where
    pub between : Scene
    pub one : List ℕ
    pub two : List ℕ
    pub goes : GoesRounds k held s between one
    pub turns : Stints k (idle_turns k.config.sessions) between t two
    pub both : printed ≡ one ++ two

-- ---- where memory was wanting

module _ (k : Setup) where
  -- As an event was tried memory was wanting: it was cut short, or nothing of it happened.
  pub data BreaksOff (s : Scene) (e : Event) (t : Scene) (printed : List ℕ) : Type 0 where
    cut_short : Plays k false s e t printed → BreaksOff s e t printed
    unbegun : t ≡ s → printed ≡ [] → BreaksOff s e t printed

  -- The first of these events were tried, one after another, and the next one broke off.
  pub record TurnBreaksOff (es : List Event) (s t : Scene) (printed : List ℕ) : Type 0 where
    pub done : List Event
    pub next : Event
    pub others : List Event
    pub split : es ≡ done ++ next ∷ others
    pub between : Scene
    pub one : List ℕ
    pub two : List ℕ
    pub goes : InTurn k done s between one
    pub breaks : BreaksOff between next t two
    pub both : printed ≡ one ++ two

  -- a stint broke off: its events were tried over and over, till one of them did
  abbrev pub StintBreaksOff : List Event → Scene → Scene → List ℕ → Type 0
  StintBreaksOff group s t printed = (times : ℕ) × TurnBreaksOff (in_a_row (replicate times group)) s t printed

  -- The first of these stints were done, one after another, and the next one broke off.
  pub record StintsBreakOff (groups : List (List Event)) (s t : Scene) (printed : List ℕ) : Type 0 where
    pub done : List (List Event)
    pub next : List Event
    pub others : List (List Event)
    pub split : groups ≡ done ++ next ∷ others
    pub between : Scene
    pub one : List ℕ
    pub two : List ℕ
    pub goes : Stints k done s between one
    pub breaks : StintBreaksOff next between t two
    pub both : printed ≡ one ++ two

  -- rounds broke off
  abbrev pub RoundsBreakOff : (held : ℕ → Bool) → Scene → Scene → List ℕ → Type 0
  RoundsBreakOff held s t printed = (rounds : ℕ) × StintsBreakOff (in_a_row (replicate rounds (round k held (is_shut_in s)))) s t printed

  -- As the house settled memory was wanting: what it does by itself began in its order, and broke off within the rounds, or behind them within the
  -- turns of the sessions that idle. Nothing else happened.
  pub data SettlingBreaksOff (held : ℕ → Bool) (s t : Scene) (printed : List ℕ) : Type 0 where
    in_rounds : RoundsBreakOff held s t printed → SettlingBreaksOff held s t printed
    in_turns : (between : Scene) (one two : List ℕ) → GoesRounds k held s between one → StintsBreakOff (idle_turns k.config.sessions) between t two
        → printed ≡ one ++ two → SettlingBreaksOff held s t printed

-- ---- any events

-- some events happened, one after another, and each may have been cut short for want of memory
abbrev pub Happened : Setup → List Event → Scene → Scene → List ℕ → Type 0
Happened = any.Happened lmtp_and_imap
