-- When the house stands for a scene: what it holds is what the scene says, seat by seat.
use Rattle.std.specs.Prelude.{◌≡◌, ℕ, ◌+◌, ◌<◌, slice_index_or, List, length, Option, Some, None}
use Rattle.delivery_token.specs.declared.CopyKey.{CopyKey}
use Rattle.delivery_token.specs.declared.log.Noted.{Noted}
use Rattle.delivery_token.specs.Keys.{AtLeast}
use Rattle.delivery_core.specs.Stands as core
use Rattle.house_peers.specs.HouseConnection.{HouseConnection}
use Rattle.house.specs.House.{House}
use Rattle.envelope.specs.Names.{marked}
use Rattle.house_peers.specs.Caller.{Caller, Terms}
use Rattle.house.specs.Setup.{Setup, session_seat, terms_of}
use Rattle.house.specs.Scene.{Scene}
use Rattle.house_peers.specs.ConnectionStands.{StandsForConnection}
use Rattle.house_peers.specs.Visitor.{SeatedVisitor}
use Rattle.house_peers.specs.SeatedSession.{SeatedSession, StandsForSeated}

-- the first key of the connection or session that comes to a seat with this serial
abbrev pub first_of : (seat serial : ℕ) → CopyKey
first_of seat serial = record { seat = seat; serial = serial; message = 0; recipient = 0 }

module _ (k : Terms) (seat : ℕ) (next : CopyKey) (heard : List Noted) where
  -- which connection stands at a seat
  abbrev pub StandsForOne : ℕ → Option HouseConnection → Option Caller → Type 0
  StandsForOne serials None None = AtLeast next (first_of seat serials)
  StandsForOne serials None (Some b) = ⊥
  StandsForOne serials (Some h) None = ⊥
  StandsForOne serials (Some h) (Some b) = StandsForConnection k seat next heard h b × (b.serial < serials)

module _ (seat : ℕ) (next : CopyKey) (heard : List Noted) where
  -- which session is at a seat
  abbrev pub StandsForVisit : ℕ → Option SeatedSession → Option SeatedVisitor → Type 0
  StandsForVisit serials None None = AtLeast next (first_of seat serials)
  StandsForVisit serials None (Some v) = ⊥
  StandsForVisit serials (Some p) None = ⊥
  StandsForVisit serials (Some p) (Some v) = StandsForSeated seat next heard p v × (v.serial < serials)

module _ (k : Setup) (s : Scene) (seat : ℕ) where
  pub record StandsForSeat (next : CopyKey) (serials : ℕ) (line : Option HouseConnection) : Type 0 where
    pub counted : serials ≡ s.next seat
    pub who : StandsForOne (terms_of k s.shut) seat next (s.world.heard seat) (s.next seat) line (s.caller seat)

module _ (k : Setup) (s : Scene) (place : ℕ) where
  pub record StandsForPlace (next : CopyKey) (serials : ℕ) (visitor : Option SeatedSession) : Type 0 where
    pub counted : serials ≡ s.entered place
    pub who : StandsForVisit (session_seat k place) next (s.world.heard (session_seat k place)) (s.entered place) visitor (s.visitor place)

-- the house stands for a scene
pub record StandsFor (k : Setup) (h : House) (s : Scene) : Type 0 where
  pub core : core.StandsFor k.config h.core s.world
  pub directory : h.directory ≡ marked s.shut k.directory
  pub marks : length s.shut ≡ k.config.shards
  pub host : h.host ≡ k.host
  pub max_message : h.max_message ≡ k.max_message
  pub compatible : h.compatible ≡ k.compatible
  pub homes : length k.directory.homes ≡ k.config.mailboxes
  pub shards : k.directory.shards ≡ k.config.shards
  pub some_shard : 0 < k.config.shards
  -- the seats are those of connections and, behind them, those of sessions
  pub seats : length h.callers + length h.visitors ≡ k.config.seats
  pub connections : length h.callers ≡ k.connections
  pub numbers : length h.serials ≡ k.connections
  pub each : (seat : ℕ) (y : CopyKey) (n : ℕ) (d : Option HouseConnection) → seat < length h.callers
      → StandsForSeat k s seat (slice_index_or h.core.next seat y) (slice_index_or h.serials seat n) (slice_index_or h.callers seat d)
  -- each session is at its place
  pub places : length h.visitors ≡ k.config.sessions
  pub entries : length h.entered ≡ k.config.sessions
  pub visitors : (place : ℕ) (y : CopyKey) (n : ℕ) (d : Option SeatedSession) → place < length h.visitors
      → StandsForPlace k s place (slice_index_or h.core.next (session_seat k place) y) (slice_index_or h.entered place n)
      (slice_index_or h.visitors place d)
