-- A turn of a session in a world, as its client hears it.
use Rattle.std.specs.Prelude.{◌≡◌, ℕ, List, Option, Some}
use Rattle.world.specs.World.{Config, Event, IsWorld, World}
use Rattle.imap_session.specs.Exchange.{Call, Answer as StoreAnswer, Standing, Turn}
use Rattle.imap_session.specs.Store.{Met}
use Rattle.house.specs.Meets.{Meets}
use Rattle.laws_client.specs.Client.{Client}
use Rattle.laws_client.specs.Commands.{AreNames}
use Rattle.imap_session.specs.Happenings.{Happening, VerdictsArePrinted, leads_to, told_of}
use Rattle.laws_client.specs.ListTurns.{AreTags}
use Rattle.laws_client.specs.Clients.{IsRightAbout, hears}
use Rattle.laws_client.specs.Sizes.{HasShortTexts}
use Rattle.laws_client.specs.HouseClients.{HasSmallNumbers}
use Rattle.laws_client.specs.Views.{view_of}

-- What a session knows that a client's list rests on: its tags are tags, and the names of its mailboxes stand in lines.
pub record Stands (now : Standing) : Type 0 where
  pub tags : AreTags now
  pub names : AreNames now.folders

-- Whatever happens, and whatever is refused on the way: a client that was right about what its session
-- counts before a turn hears what is said in it, and is right about what the session counts then
abbrev pub TurnIsKnown : Type 0
TurnIsKnown = (k : Config) (events : List Event) (w : World) (n : ℕ) (now : Standing) (happening : Happening) (turn : Turn) (v : World)
    (client : Option Client)
    → HasSmallNumbers k → IsWorld k events w → HasShortTexts v → Stands now → VerdictsArePrinted happening
    → leads_to now happening ≡ Some turn
    → Met (λ (w : World) (call : Call) (answer : StoreAnswer) (v : World). Meets k n w call answer v) w turn.events v
    → IsRightAbout (view_of w n) client → IsRightAbout (view_of v n) (hears client (told_of now happening turn.bytes))

-- and the session stands as before
abbrev pub StandsStill : Type 0
StandsStill = (now : Standing) (happening : Happening) (turn : Turn) → Stands now → leads_to now happening ≡ Some turn → Stands turn.standing
