-- What of a house is settled at the start, and who talks to it.
use Rattle.std.specs.Prelude.{ℕ, ◌+◌, Bool, List, length, max, Some, ◌≡◌, ◌⊎◌, ◌++◌, []}
use Rattle.envelope.specs.Names.{Directory, marked}
use Rattle.world.specs.World.{Config, Event, Steps, World}
use Rattle.house_peers.specs.Caller.{Terms}
use Rattle.imap_session.specs.Exchange.{Admission}
use Rattle.imap_session.specs.Folders.{admission_of}
use Rattle.settings.specs.Settings.{directory_for, words_of}
use Rattle.delivery_token.specs.declared.Verdict.{Verdict}
use Rattle.line_io.specs.Wire.{crlf}
use Rattle.house_peers.specs.Speech.{Speech, Guest}
use Rattle.settings.specs.declared.config.Config as given

-- The seats of connections come first, and behind them those of sessions. The directory is as it was at the start: no shard is shut there.
pub record Setup : Type 0 where
  pub config : Config
  pub connections : ℕ
  pub directory : Directory
  pub host : List ℕ
  pub max_message : ℕ
  -- sessions have the compatible profile
  pub compatible : Bool

-- so many connections may stand at a time
abbrev pub connection_seats : ℕ
connection_seats = 8

-- and so many sessions, each at its place
abbrev pub places : ℕ
places = 8

-- what the settings settle
abbrev pub setup_of : given.Config → Setup
setup_of c = record {
  config = record {
    seats = connection_seats + places;
    shards = c.shards;
    mailboxes = length (words_of c);
    sessions = places;
    depth = c.depth;
    messages = c.messages;
    ring = c.ring;
    ring_max = max c.ring c.ring_max;
    first_uid = c.first_uid;
    uidvalidity = c.uidvalidity;
  };
  connections = connection_seats;
  directory = directory_for c;
  host = c.host.items;
  max_message = c.max_message;
  compatible = c.compatible;
}

-- the seat of the session at a place
abbrev pub session_seat : Setup → (place : ℕ) → ℕ
session_seat k place = k.connections + place

-- how a user's session comes in
abbrev pub admitted_in : Setup → (user : List ℕ) → Admission
admitted_in k user = admission_of k.compatible (Some k.max_message) user

-- the terms on which its connections are served while these shards are shut
abbrev pub terms_of : Setup → List Bool → Terms
terms_of k shut = record { directory = marked shut k.directory; host = k.host; max_message = k.max_message }

-- ---- who talks to the house

pub record Peers : Type 1 where
  pub speech : Speech
  pub guest : Guest
  -- what a call of the session at a place comes to in a world, with the answer that it gets
  pub Meets : Config → (place : ℕ) → World → guest.Call → guest.Answer → World → Type 0

-- nothing, or lines of which the last one has ended
abbrev pub AreLines : List ℕ → Type 0
AreLines bytes = (bytes ≡ []) ⊎ ((front : List ℕ) × (bytes ≡ front ++ crlf))

-- some events lead from one world to the other
abbrev pub Reached : Config → World → World → Type 0
Reached k w v = (events : List Event) × Steps k w events v

module _ (peers : Peers) where
  -- All that is asked of what sessions speak: they say whole lines, and what they do to a world is events of that world.
  pub record AreGuests : Type 0 where
    pub greets : (coming : peers.guest.Coming) → AreLines (peers.guest.greeting coming)
    pub meets : (k : Config) (place : ℕ) (w : World) (call : peers.guest.Call) (answer : peers.guest.Answer) (v : World)
        → peers.Meets k place w call answer v → Reached k w v
    pub answers : (k : Config) (place : ℕ) (at next : peers.guest.At) (waits still said : List ℕ) (w v : World)
        → peers.guest.Answers (peers.Meets k place) at waits w v next still said → AreLines said × Reached k w v
    pub hears : (k : Config) (place : ℕ) (at next : peers.guest.At) (verdict : Verdict) (how : peers.guest.After) (said : List ℕ) (w v : World)
        → peers.guest.Hears (peers.Meets k place) at verdict w v said how next → AreLines said × Reached k w v
    pub idles : (k : Config) (place : ℕ) (at next : peers.guest.At) (shown : ℕ) (said : List ℕ) (w v : World)
        → peers.guest.Idles (peers.Meets k place) at w v shown said next → AreLines said × Reached k w v
