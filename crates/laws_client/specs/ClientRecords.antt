-- What the client of a house's session knows, over a record of all that happened in the house and was printed.
use Rattle.std.specs.Prelude.{◌≡◌, ℕ, ◌+◌, ◌<◌, ◌^◌, ◌==◌, Bool, true, false, List, [], ◌∷◌, ◌++◌, flat_map, Some, None, if◌then◌else◌}
use Rattle.world.specs.World.{Event as WorldEvent, IsWorld, Session, Steps, World, empty_world, pending}
use Rattle.imap_session.specs.Commands.{greeting}
use Rattle.imap_session.specs.Exchange.{Standing}
use Rattle.house_peers.specs.Visitor.{SeatedVisitor}
use Rattle.house.specs.Scene.{LeavesMailbox, Scene, empty_scene, place_of}
use Rattle.house.specs.Setup.{Setup, setup_of}
use Rattle.settings.specs.declared.config.Config.{Config}
use Rattle.settings.specs.Settings.{IsInRange, config_fault}
use Rattle.house.specs.declared.event.Event as house
use Rattle.house.specs.declared.event.Event.TheVariants.{Enter, Leave, Say}
use Rattle.exactly_once.specs.Promise.{Entry, ExactlyOnce, IsRecord}
use Rattle.laws_client.specs.Clients.{IsRightAbout, hears_all}
use Rattle.imap_session.specs.Happenings.{Told, bytes_in}
use Rattle.laws_client.specs.HouseClients.{Lives, IsPrintable, shown_in, first_standing}
use Rattle.laws_client.specs.Sizes.{HasShortTexts}
use Rattle.laws_client.specs.Views.{messages_of, view_of}

-- ---- what is settled at the start

-- ---- of the session at a place

-- the entry lets it in
abbrev pub lets_in : (place : ℕ) → house.Event → Bool
lets_in place (Enter session user) = place_of session == place
lets_in place event = false

-- whose it is, where it was that user's before
abbrev pub user_in : (place : ℕ) → house.Event → List ℕ → List ℕ
user_in place (Enter session user) before = if place_of session == place then user.now else before
user_in place event before = before

-- the world in which it was let in, as it was before that entry
abbrev pub began_in : (place : ℕ) → Scene → house.Event → World → World
began_in place s event before = if lets_in place event then s.world else before

-- under which serial it was let in, where it was that before: its number among the sessions that came to its place
abbrev pub serial_in : (place : ℕ) → Scene → house.Event → ℕ → ℕ
serial_in place s event before = if lets_in place event then s.entered place else before

-- its client is gone at this event
abbrev pub is_left : (place : ℕ) → house.Event → Bool
is_left place (Leave session) = place_of session == place
is_left place event = false

-- whether a session was let in there whose client isn't gone, where it was so before
abbrev pub stays_in : (place : ℕ) → house.Event → Bool → Bool
stays_in place event before = if lets_in place event then true else if is_left place event then false else before

-- its client sent these bytes
abbrev pub sent_in : (place : ℕ) → house.Event → List ℕ
sent_in place (Say session bytes) = if place_of session == place then bytes.now else []
sent_in place event = []

-- nothing of what came before it was let in is its own
abbrev pub unless : Bool → List ℕ → List ℕ
unless true bytes = []
unless false bytes = bytes

-- whose it is behind all these entries
abbrev pub user_by_then : (place : ℕ) → List ℕ → List Entry → List ℕ
user_by_then place before [] = before
user_by_then place before (entry ∷ entries) = user_by_then place (user_in place entry.event before) entries

-- the world in which it was let in, from this scene on
abbrev pub began_by_then : (place : ℕ) → World → Scene → List Entry → World
began_by_then place before s [] = before
began_by_then place before s (entry ∷ entries) = began_by_then place (began_in place s entry.event before) entry.after entries

-- and its serial
abbrev pub serial_by_then : (place : ℕ) → ℕ → Scene → List Entry → ℕ
serial_by_then place before s [] = before
serial_by_then place before s (entry ∷ entries) = serial_by_then place (serial_in place s entry.event before) entry.after entries

-- and whether its client stays
abbrev pub stays_by_then : (place : ℕ) → Bool → List Entry → Bool
stays_by_then place before [] = before
stays_by_then place before (entry ∷ entries) = stays_by_then place (stays_in place entry.event before) entries

-- what its client sent in all these entries since it was let in, behind what it sent before them
abbrev pub sent_by_then : (place : ℕ) → List ℕ → List Entry → List ℕ
sent_by_then place before [] = before
sent_by_then place before (entry ∷ entries) = sent_by_then place (unless (lets_in place entry.event) before ++ sent_in place entry.event) entries

-- and what was printed of it
abbrev pub shown_by_then : (place : ℕ) → List ℕ → List Entry → List ℕ
shown_by_then place before [] = before
shown_by_then place before (entry ∷ entries) = shown_by_then place (unless (lets_in place entry.event) before ++ shown_in place entry.piece) entries

-- and was greeted so
abbrev pub first_words : Setup → (user : List ℕ) → List ℕ
first_words k user = greeting (first_standing k user).profile

module _ (k : Setup) where
  -- The client of a session that is there: of all that it sent since it was let in and of
  -- all that was printed to it, turn by turn, it knows what its session counts.
  pub record KeepsUp (entries : List Entry) (place : ℕ) (v : SeatedVisitor) (t : Scene) : Type 0 where
    -- the world in which it was let in, which came from the empty one
    pub began : World
    pub let_in : began ≡ began_by_then place empty_world (empty_scene k) entries
    pub events : List WorldEvent
    pub came : IsWorld k.config events began
    -- what it sent and was told, answer by answer, and all that others did meanwhile
    pub sent : List ℕ
    pub told : List Told
    pub lives : Lives k.config place (first_standing k (user_by_then place [] entries)) began sent told v.session.standing t.world
    -- all that it sent was answered, but what waits
    pub answered : sent_by_then place [] entries ≡ sent ++ v.session.waits
    -- it was told the greeting and these answers: all of it is printed, but what is still to be printed
    pub printed : first_words k (user_by_then place [] entries) ++ flat_map bytes_in told ≡ shown_by_then place [] entries ++ v.session.unsaid
    -- where it is in a mailbox it is right about what its session counts there
    pub right : IsRightAbout (view_of t.world place) (hears_all None told)
    -- and where nothing is pending there, its list is the mailbox as it is
    pub all : (s : Session) → t.world.session place ≡ Some s → pending (t.world.box s.mailbox) s ≡ []
        → IsRightAbout (messages_of (t.world.box s.mailbox)) (hears_all None told)

-- The client of a session that has ended by itself, as by LOGOUT: so it was to the end, of all that it was told.
pub record KeptUp (k : Setup) (entries : List Entry) (place : ℕ) (t : Scene) : Type 0 where
  pub began : World
  pub let_in : began ≡ began_by_then place empty_world (empty_scene k) entries
  pub events : List WorldEvent
  pub came : IsWorld k.config events began
  -- how it stood at its end, in which world, and which bytes waited then, that are dropped
  pub sent : List ℕ
  pub told : List Told
  pub now : Standing
  pub last : World
  pub waits : List ℕ
  pub lives : Lives k.config place (first_standing k (user_by_then place [] entries)) began sent told now last
  pub ended : now.ended ≡ true
  -- then it left its mailbox; and the world moved on
  pub left : World
  pub leaves : LeavesMailbox k place last left
  pub later : List WorldEvent
  pub moved : Steps k.config left later t.world
  -- all that it sent was answered, but what waited
  pub answered : sent_by_then place [] entries ≡ sent ++ waits
  -- the greeting and these answers are all that was printed to it
  pub printed : first_words k (user_by_then place [] entries) ++ flat_map bytes_in told ≡ shown_by_then place [] entries
  -- where it was in a mailbox it was right about what its session counted there
  pub right : IsRightAbout (view_of last place) (hears_all None told)

-- Over whatever record of a house that was new: whoever is there keeps up.
abbrev pub ClientsKeepUp : Type 0
ClientsKeepUp = (k : Setup) (entries : List Entry) (t : Scene) (place : ℕ) (v : SeatedVisitor) → IsPrintable k → IsRecord k entries (empty_scene k) t
    → t.visitor place ≡ Some v → v.gone ≡ false → KeepsUp k entries place v t

-- And so did the client of a session that was let in there last, whose client isn't gone, and that is there no more
abbrev pub ClientsKeptUp : Type 0
ClientsKeptUp = (k : Setup) (entries : List Entry) (t : Scene) (place : ℕ) → IsPrintable k → IsRecord k entries (empty_scene k) t
    → stays_by_then place false entries ≡ true → t.visitor place ≡ None → KeptUp k entries place t

-- so it is of the record that `ExactlyOnce` has: of whatever events happened in the house
abbrev pub ClientsOfHousesKeepUp : Type 0
ClientsOfHousesKeepUp =
    (k : Setup) (events : List house.Event) (t : Scene) (printed : List ℕ) (once : ExactlyOnce k events t printed) (place : ℕ)
    (v : SeatedVisitor) → IsPrintable k
    → t.visitor place ≡ Some v → v.gone ≡ false → KeepsUp k once.entries place v t

-- No text that was accepted is too long to be told of: what a connection takes is limited, and so is what a session does
abbrev pub TextsStayShort : Type 0
TextsStayShort = (k : Setup) (entries : List Entry) (t : Scene) → k.max_message < 2 ^ 31 → IsRecord k entries (empty_scene k) t
    → HasShortTexts t.world

-- From one moment of a record to a later one the world moves on by its events.
abbrev pub RecordsMoveOn : Type 0
RecordsMoveOn = (k : Setup) (entries : List Entry) (s t : Scene) → IsRecord k entries s t → (events : List WorldEvent)
    × Steps k.config s.world events t.world

-- and any settings that are right can be printed
abbrev pub SettingsCanBePrinted : Type 0
SettingsCanBePrinted = (c : Config) → IsInRange c → config_fault c ≡ None → IsPrintable (setup_of c)
