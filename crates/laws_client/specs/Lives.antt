-- A session's life in a house, as its client hears it: turns of its own, and between them whatever others do.
use Rattle.std.specs.Prelude.{ℕ, List, [], None}
use Rattle.world.specs.World.{Config, Event, IsWorld, World}
use Rattle.imap_session.specs.Exchange.{Standing}
use Rattle.imap_session.specs.Happenings.{Told}
use Rattle.laws_client.specs.Clients.{IsRightAbout, hears_all}
use Rattle.laws_client.specs.Sizes.{HasShortTexts}
use Rattle.laws_client.specs.HouseClients.{HasSmallNumbers, Lives}
use Rattle.laws_client.specs.RecordTurns.{Stands}
use Rattle.laws_client.specs.Views.{view_of}

-- Whatever its client sends and whatever others do, it is right about what the session counts at each moment.
abbrev pub LivesAreKnown : Type 0
LivesAreKnown = (k : Config) (events : List Event) (n : ℕ) (first : Standing) (began : World) (sent : List ℕ) (told : List Told)
    (now : Standing) (w : World)
    → HasSmallNumbers k → IsWorld k events began → HasShortTexts w → Stands first
    → Lives k n first began sent told now w → IsRightAbout (view_of w n) (hears_all None told)
