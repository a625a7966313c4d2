-- Where a client knows that it is in a mailbox its session has selected one, and where a SELECT or EXAMINE isn't answered OK it has selected none.
-- Before a client that is to log in has done so, none is selected.
use Rattle.std.specs.Prelude.{◌≡◌, ◌⊎◌, ℕ, true, false, List, IfSome, Option, Some, None}
use Rattle.world.specs.World.{Config, Event, IsWorld, World}
use Rattle.imap_grammar.specs.Reading.{read}
use Rattle.imap_session.specs.declared.standing.Selected.{Selected}
use Rattle.imap_session.specs.Exchange.{Admission, Answer as StoreAnswer, Call, Folder, Standing, Turn, begun_with}
use Rattle.imap_session.specs.Commands.{turn_of}
use Rattle.imap_session.specs.Store.{Met}
use Rattle.house.specs.Meets.{Meets}
use Rattle.laws_client.specs.Client.{Client}
use Rattle.laws_client.specs.Clients.{Entering, asked, has_ok, hears_all}
use Rattle.imap_session.specs.Happenings.{Told, whole_line}
use Rattle.laws_client.specs.HouseClients.{Lives}

abbrev pub Known_selected : Option Client → Standing → Type 0
Known_selected client now = IfSome client (λ (c : Client). (s : Selected) × (now.selected ≡ Some s))

-- at each moment of a session's life, from any world
abbrev pub KnowingIsSelected : Type 0
KnowingIsSelected = (k : Config) (n : ℕ) (first : Standing) (began : World) (sent : List ℕ) (told : List Told) (now : Standing) (w : World)
    → Lives k n first began sent told now w → Known_selected (hears_all None told) now

-- where a client is still to log in, no mailbox is selected (RFC 9051, 3.1)
abbrev pub HasLoggedIn : Standing → Type 0
HasLoggedIn now = IfSome now.login (λ user. now.selected ≡ None)

-- So it is at each moment of a session's life, however it begins.
abbrev pub LoginComesFirst : Type 0
LoginComesFirst = (k : Config) (n : ℕ) (admission : Admission) (folders : List Folder) (began : World) (sent : List ℕ) (told : List Told)
    (now : Standing) (w : World) → Lives k n (begun_with admission folders) began sent told now w → HasLoggedIn now

-- Wherever memory is refused: a SELECT or EXAMINE that isn't answered OK leaves no mailbox selected (RFC 9051, 6.3.2), or the session has ended.
abbrev pub RefusedSelectsNone : Type 0
RefusedSelectsNone = (k : Config) (events : List Event) (w : World) (n : ℕ) (now : Standing) (line whole tag : List ℕ) (answers : List StoreAnswer)
    (turn : Turn) (v : World)
    → IsWorld k events w → HasLoggedIn now → whole_line now line ≡ Some whole → asked (read whole) ≡ Entering tag
    → turn_of now line answers ≡ Some turn → Met (λ (w : World) (call : Call) (answer : StoreAnswer) (v : World). Meets k n w call answer v) w
    turn.events v
    → has_ok true tag turn.bytes ≡ false → (turn.standing.selected ≡ None) ⊎ (turn.standing.ended ≡ true)
