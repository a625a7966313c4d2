-- What bodies and proofs say besides: when a connection stands for a caller of the scene.
use Rattle.std.specs.Prelude.{ℕ, Bool, List}
use Rattle.delivery_token.specs.declared.CopyKey.{CopyKey}
use Rattle.delivery_token.specs.declared.log.Noted.{Noted}
use Rattle.lmtp_machine.specs.declared.connection.What.{What}
use Rattle.house_peers.specs.HouseConnection.{HouseConnection}
use Rattle.house_peers.specs.Caller.{Caller, GoesOn, Terms, Works}
use Rattle.house_peers.specs.ConnectionStands.{StandsForConnection}

-- The same, where its peer is there.
pub record WentOn (k : Terms) (whole : Bool) (seat : ℕ) (next : CopyKey) (heard : List Noted) (b : Caller) (what : What)
    (h : HouseConnection) : Type 0 where
  pub after : Caller
  pub goes : GoesOn k whole seat heard b what after
  pub stands : StandsForConnection k seat next heard h after

-- The same, where nothing is awaited.
pub record WorkedOff (k : Terms) (whole : Bool) (seat : ℕ) (next : CopyKey) (heard : List Noted) (b : Caller) (what : What)
    (h : HouseConnection) : Type 0 where
  pub after : Caller
  pub works : Works k whole seat b what after
  pub stands : StandsForConnection k seat next heard h after
