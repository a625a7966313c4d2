-- What a relay may conclude of each connection of a house on one thread, whatever happened there: by the record, which has what came for a
-- connection and what it was told. A connection is known by its seat and by its serial there. Its peer may have sent more, which hasn't come yet.
use Rattle.std.specs.Prelude.{◌≡◌, ◌==◌, ℕ, ◌<◌, List, [], ◌++◌, Contains, false, Option, None, Some, if◌then◌else◌, ◌&&◌, ◌||◌, Bool, ◌∷◌, map}
use Rattle.delivery_token.specs.declared.Job.{Job}
use Rattle.delivery_token.specs.declared.Verdict.{Verdict}
use Rattle.settings.specs.Settings.{config_fault}
use Rattle.settings.specs.declared.config.Config as given
use Rattle.lmtp_machine.specs.Dialogue.{wire}
use Rattle.lmtp_machine.specs.declared.reply.Reply.{Reply}
use Rattle.lmtp_machine.specs.declared.reply.Reply.TheVariants.{Greeting}
use Rattle.world.specs.World as world
use Rattle.world.specs.World.{Config, IsWorld, World}
use Rattle.house_peers.specs.AnyCaller.{Caller}
use Rattle.house_peers.specs.Imap.{imap}
use Rattle.house_peers.specs.Lmtp.{lmtp}
use Rattle.house_peers.specs.Speech.{Guest}
use Rattle.house.specs.AnyScene as any
use Rattle.house.specs.AnyScene.{seat_of}
use Rattle.house.specs.Meets.{Meets}
use Rattle.house.specs.Setup.{setup_of, Setup, Peers}
use Rattle.house.specs.declared.event.Event as house
use Rattle.house.specs.declared.event.Event.{Event}
use Rattle.house.specs.declared.event.Event.TheVariants.{Bytes, Vanish}
use Rattle.exactly_once.specs.AnyPromise as promised
use Rattle.exactly_once.specs.AnyPromise.{Replies}
use Rattle.script.specs.Promise.{DeliversOnce, entries_of}
use Rattle.laws_relay.specs.Concluded.{KnowsAll, MayConclude}
use Rattle.laws_relay.specs.Concludes.{Concludes, of_world}
use Rattle.laws_relay.specs.Handed.{IsInLine, handed_over}

-- ---- who talks to the house

-- what its sessions speak, and what a call of the session at a place comes to in a world, with the answer that it gets
pub record Sessions : Type 1 where
  pub guest : Guest
  pub Meets : Config → (place : ℕ) → World → guest.Call → guest.Answer → World → Type 0

-- who talks to such a house
abbrev pub peers_of : Sessions → Peers
peers_of sessions = record { speech = lmtp; guest = sessions.guest; Meets = sessions.Meets }

-- no lane has changed, and nobody has heard more
abbrev pub IsStill : World → World → Type 0
IsStill w v = (v.lane ≡ w.lane) × (v.heard ≡ w.heard)

module _ (sessions : Sessions) where
  -- Sessions put copies by their seats alone: what they ask of mailboxes changes no lane, and nothing that was heard.
  pub record AreStill : Type 0 where
    pub meets : (k : Config) (place : ℕ) (w : World) (call : sessions.guest.Call) (answer : sessions.guest.Answer) (v : World)
        → sessions.Meets k place w call answer v → IsStill w v
    pub answers : (k : Config) (place : ℕ) (at next : sessions.guest.At) (waits still said : List ℕ) (w v : World)
        → sessions.guest.Answers (sessions.Meets k place) at waits w v next still said → IsStill w v
    pub hears : (k : Config) (place : ℕ) (at next : sessions.guest.At) (verdict : Verdict) (how : sessions.guest.After) (said : List ℕ) (w v : World)
        → sessions.guest.Hears (sessions.Meets k place) at verdict w v said how next → IsStill w v
    pub idles : (k : Config) (place : ℕ) (at next : sessions.guest.At) (shown : ℕ) (said : List ℕ) (w v : World)
        → sessions.guest.Idles (sessions.Meets k place) at w v shown said next → IsStill w v

-- sessions that speak IMAP
abbrev pub imap_sessions : Sessions
imap_sessions = record { guest = imap; Meets = Meets }

-- ---- what came and what was told

module _ (sessions : Sessions) where
  -- such a house at a moment; what an event prints there; and an entry of its record
  abbrev pub Scene : Type 0
  Scene = any.Scene (peers_of sessions)

  abbrev pub Piece : Type 0
  Piece = promised.Piece (peers_of sessions)

  abbrev pub Entry : Type 0
  Entry = promised.Entry (peers_of sessions)

  -- a new one
  abbrev pub new_house : Setup → Scene
  new_house k = any.empty_scene (peers_of sessions) k

  -- What comes for this seat, and what is said there, is this connection's: it stands there, or is opened there next.
  abbrev pub is_meant : (seat serial : ℕ) → Scene → (at : ℕ) → Bool
  is_meant seat serial s at = (at == seat) && (promised.serial_of (peers_of sessions) (s.next at) (s.caller at) == serial)

  -- the bytes that an event brings it
  abbrev pub came_in : (seat serial : ℕ) → Scene → house.Event → List ℕ
  came_in seat serial s (Bytes connection piece) = if is_meant seat serial s (seat_of connection) then piece.now else []
  came_in seat serial s event = []

  module _ (k : Setup) (seat serial : ℕ) where
    -- The bytes that it is told by what an event prints, without the marks that are printed before its lines.
    abbrev pub told_in : Scene → Piece → List ℕ
    told_in s (Replies at said) = if is_meant seat serial s at then wire k.host (map (promised.reply_of (peers_of sessions)) said) else []
    told_in s piece = []

  -- its peer is gone at this event
  abbrev pub vanishes_in : (seat serial : ℕ) → Scene → house.Event → Bool
  vanishes_in seat serial s (Vanish connection) = is_meant seat serial s (seat_of connection)
  vanishes_in seat serial s event = false

  -- all that came for it, from this scene on
  abbrev pub came_for : (seat serial : ℕ) → Scene → List Entry → List ℕ
  came_for seat serial s [] = []
  came_for seat serial s (entry ∷ entries) = came_in seat serial s entry.event ++ came_for seat serial entry.after entries

  module _ (k : Setup) (seat serial : ℕ) where
    -- all that it was told
    abbrev pub told_to : Scene → List Entry → List ℕ
    told_to s [] = []
    told_to s (entry ∷ entries) = told_in k seat serial s entry.piece ++ told_to entry.after entries

  -- whether its peer was gone at one of these events
  abbrev pub has_vanished : (seat serial : ℕ) → Scene → List Entry → Bool
  has_vanished seat serial s [] = false
  has_vanished seat serial s (entry ∷ entries) = vanishes_in seat serial s entry.event || has_vanished seat serial entry.after entries

-- ---- what it may conclude

-- what the connection of this serial has still to print, by who stands at its seat; one that stands there no more has nothing
abbrev pub unsaid_by : (serial : ℕ) → Option (Caller lmtp) → List ℕ
unsaid_by serial None = []
unsaid_by serial (Some b) = if b.serial == serial then b.talk.unsaid else []

module _ (sessions : Sessions) where
  -- Of each connection that was opened: a relay that sent what came for it, and perhaps more, and was told a front of what was printed to it, may
  -- conclude which copies stand. What is said there in all is what was printed, and what is still to be, or was dropped as the peer was gone.
  pub record RelaysConclude (k : Setup) (entries : List (Entry sessions)) (after : Scene sessions) : Type 0 where
    pub each : (seat serial : ℕ) → seat < k.connections → serial < after.next seat
        → (later told unread : List ℕ) → told ++ unread ≡ told_to sessions k seat serial (new_house sessions k) entries
        → (unprinted : List ℕ) × (replies : List Reply) × (told ++ (unread ++ unprinted) ≡ wire k.host (Greeting ∷ replies))
        × (has_vanished sessions seat serial (new_house sessions k) entries ≡ false → unprinted ≡ unsaid_by serial (after.caller seat))
        × Concludes k.directory (of_world after.world) seat serial
        (handed_over (came_for sessions seat serial (new_house sessions k) entries ++ later) told)
        (handed_over (came_for sessions seat serial (new_house sessions k) entries ++ later) (told ++ (unread ++ unprinted)))
    pub opened : (mailbox : ℕ) (entry : Job × ℕ) → Contains (after.world.box mailbox).accepted entry → entry.0.key.seat < k.connections
        → entry.0.key.serial < after.next entry.0.key.seat

  -- So it is of every record of a house.
  abbrev pub RelaysConcludeByRecords : Type 0
  RelaysConcludeByRecords = (k : Setup) (entries : List (Entry sessions)) (after : Scene sessions) (steps : List world.Event) → IsInLine k.host
      → promised.IsRecord (peers_of sessions) k entries (new_house sessions k) after → IsWorld k.config steps after.world
      → RelaysConclude k entries after

-- ---- the same, and how it is known

module _ (sessions : Sessions) where
  -- Nothing more is to be said on a connection: it stands at its seat, awaits no verdicts and has nothing to print, or it stands there no more.
  abbrev pub IsDone : Scene sessions → (seat serial : ℕ) → Type 0
  IsDone s seat serial = (b : Caller lmtp) → s.caller seat ≡ Some b → b.serial ≡ serial → (b.talk.pending ≡ []) × (b.talk.unsaid ≡ [])

  -- Of each connection that was opened: a relay that sent what came for it, and perhaps more, and was told a front of what was said to it, may
  -- conclude which copies stand: by that front, by what was printed behind it, and, where its peer was never gone, by what the connection has still
  -- to print. And there are no copies of other connections.
  pub record RelaysMayConclude (k : Setup) (entries : List (Entry sessions)) (after : Scene sessions) : Type 0 where
    pub each : (seat serial : ℕ) → seat < k.connections → serial < after.next seat
        → (later told unread : List ℕ) → told ++ unread ≡ told_to sessions k seat serial (new_house sessions k) entries
        → (may : MayConclude k.host k.directory after.world seat serial
        (came_for sessions seat serial (new_house sessions k) entries ++ later) told unread)
        × (has_vanished sessions seat serial (new_house sessions k) entries ≡ false → may.unprinted ≡ unsaid_by serial (after.caller seat))
    -- where its peer was never gone and nothing more is to be said, a relay that was told all has read of each copy that stands that it does
    pub all : (seat serial : ℕ) → seat < k.connections → serial < after.next seat
        → has_vanished sessions seat serial (new_house sessions k) entries ≡ false → IsDone after seat serial
        → (later : List ℕ) → KnowsAll k.host k.directory after.world seat serial
        (came_for sessions seat serial (new_house sessions k) entries ++ later) (told_to sessions k seat serial (new_house sessions k) entries)
    pub opened : (mailbox : ℕ) (entry : Job × ℕ) → Contains (after.world.box mailbox).accepted entry → entry.0.key.seat < k.connections
        → entry.0.key.serial < after.next entry.0.key.seat

  -- of every record of a house
  abbrev pub ByTheRecord : Type 0
  ByTheRecord = (k : Setup) (entries : List (Entry sessions)) (after : Scene sessions) (steps : List world.Event) → IsInLine k.host
      → promised.IsRecord (peers_of sessions) k entries (new_house sessions k) after → IsWorld k.config steps after.world
      → RelaysMayConclude k entries after

  -- of all events of a new house, and all that they printed
  abbrev pub OfAllEvents : Type 0
  OfAllEvents = (k : Setup) (events : List Event) (after : Scene sessions) (printed : List ℕ) → IsInLine k.host
      → (once : promised.ExactlyOnce (peers_of sessions) k events after printed) → RelaysMayConclude k once.entries after

-- of a script's lines that were played
abbrev pub OfScripts : Type 0
OfScripts = (k : Setup) (count : ℕ) (after : Scene imap_sessions) (printed : List ℕ) → IsInLine k.host
    → (once : DeliversOnce k count after printed) → RelaysMayConclude imap_sessions k (entries_of once.parts) after

-- the name of a house that has settings has no LF
abbrev pub SettingsAreInLine : Type 0
SettingsAreInLine = (c : given.Config) → config_fault c ≡ None → IsInLine (setup_of c).host
