-- What the client of a house's session believes of flags, over a record of all that happened in the house and was printed.
use Rattle.std.specs.Prelude.{◌≡◌, ℕ, false, List, [], Some, None}
use Rattle.house_peers.specs.Visitor.{SeatedVisitor}
use Rattle.house.specs.Scene.{Scene, empty_scene}
use Rattle.house.specs.Setup.{Setup}
use Rattle.house.specs.declared.event.Event as house
use Rattle.world.specs.World.{Session, pending}
use Rattle.exactly_once.specs.Promise.{Entry, ExactlyOnce, IsRecord}
use Rattle.script.specs.Promise.{DeliversOnce, entries_of}
use Rattle.laws_client.specs.Clients.{hears_all}
use Rattle.laws_client.specs.ClientRecords.{KeepsUp}
use Rattle.laws_client.specs.HouseClients.{IsPrintable}
use Rattle.laws_client.specs.Worlds.{HasFlagsNow}
use Rattle.laws_client.specs.HouseClients.{point_of}
use Rattle.laws_client.specs.Flags.{IsRightOnFlags}

module _ (k : Setup) where
  -- The client of a session that is there keeps up, and is right about flags by the very same
  -- answers; where nothing is pending all that it knows of flags is what they are.
  pub record KnowsFlagsToo (entries : List Entry) (place : ℕ) (v : SeatedVisitor) (t : Scene) : Type 0 where
    pub keeps : KeepsUp k entries place v t
    pub flags : IsRightOnFlags (point_of t.world place) (hears_all None keeps.told)
    pub now : (s : Session) → t.world.session place ≡ Some s → pending (t.world.box s.mailbox) s ≡ []
        → HasFlagsNow (t.world.box s.mailbox) (hears_all None keeps.told)

-- Over whatever record of a house that was new: whoever is there.
abbrev pub ClientsKnowFlags : Type 0
ClientsKnowFlags = (k : Setup) (entries : List Entry) (t : Scene) (place : ℕ) (v : SeatedVisitor) → IsPrintable k
    → IsRecord k entries (empty_scene k) t
    → t.visitor place ≡ Some v → v.gone ≡ false → KnowsFlagsToo k entries place v t

-- so it is of the record that `ExactlyOnce` has: of whatever events happened in the house
abbrev pub ClientsOfHousesKnowFlags : Type 0
ClientsOfHousesKnowFlags =
    (k : Setup) (events : List house.Event) (t : Scene) (printed : List ℕ) (once : ExactlyOnce k events t printed) (place : ℕ)
    (v : SeatedVisitor) → IsPrintable k
    → t.visitor place ≡ Some v → v.gone ≡ false → KnowsFlagsToo k once.entries place v t

-- and of the record that `DeliversOnce` has: of what the lines of a script did
abbrev pub ClientsOfScriptsKnowFlags : Type 0
ClientsOfScriptsKnowFlags =
    (k : Setup) (count : ℕ) (t : Scene) (printed : List ℕ) (once : DeliversOnce k count t printed) (place : ℕ) (v : SeatedVisitor) → IsPrintable k
    → t.visitor place ≡ Some v → v.gone ≡ false → KnowsFlagsToo k (entries_of once.parts) place v t
