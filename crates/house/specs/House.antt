-- What the house holds, as contracts see it.
use Rattle.std.specs.Prelude.{ℕ, Bool, List, Option}
use Rattle.envelope.specs.Names.{Directory}
use Rattle.delivery_core.specs.DeliveryCore.{DeliveryCore}
use Rattle.house_peers.specs.HouseConnection.{HouseConnection}
use Rattle.house_peers.specs.SeatedSession.{SeatedSession}

-- The delivery core; which connection stands at each of the first seats, and the serial of the next one there; which session is at each place, and
-- the serial of the next one there; and what is settled.
pub record House : Type 0 where
  pub core : DeliveryCore
  pub callers : List (Option HouseConnection)
  pub serials : List ℕ
  pub visitors : List (Option SeatedSession)
  pub entered : List ℕ
  pub directory : Directory
  pub host : List ℕ
  pub max_message : ℕ
  pub compatible : Bool
