-- What a client of a house believes of flags, in every world.
use Rattle.std.specs.Prelude.{◌≡◌, ℕ, true, List, [], ◌∷◌, ◌++◌, Option, Some, None, Ok}
use Rattle.world.specs.World.{Box, Config, Event, IsWorld, Session, Step, World, pending}
use Rattle.imap_grammar.specs.Reading.{is_done, read}
use Rattle.imap_grammar.specs.declared.command.Command.TheVariants.{Noop}
use Rattle.imap_session.specs.Exchange.{Call, Answer as StoreAnswer, Standing, Turn}
use Rattle.imap_session.specs.Store.{Met}
use Rattle.house.specs.Meets.{Meets}
use Rattle.laws_client.specs.Clients.{Each}
use Rattle.laws_client.specs.Client.{Client, Known, knowing}
use Rattle.imap_session.specs.Happenings.{Answer, Happening, Told, VerdictsArePrinted, Words, leads_to, told_of, whole_line}
use Rattle.laws_client.specs.Clients.{has_ok, hears, hears_all}
use Rattle.laws_client.specs.Current.{IsAnswered}
use Rattle.laws_client.specs.HouseClients.{Lives, point_of}
use Rattle.laws_client.specs.Sizes.{HasShortTexts}
use Rattle.laws_client.specs.HouseClients.{HasSmallNumbers}
use Rattle.laws_client.specs.RecordTurns.{Stands}
use Rattle.laws_client.specs.Views.{messages_of}
use Rattle.laws_client.specs.HouseClients.{IsOfOthers}
use Rattle.laws_client.specs.Flags.{BelievesNow, IsRightOnFlags}
use Rattle.laws_client.specs.FlagTurns.{IfInside, SeesFlags}

-- where it knows that it is in a mailbox, its list is as long as the mailbox, and all that it knows of flags is what they are
abbrev pub HasFlagsNow : Box → Option Client → Type 0
HasFlagsNow b None = Unit {0}
HasFlagsNow b (Some client) = (list : List Known) × (client ≡ knowing (Some list)) × Each (BelievesNow b.log) (messages_of b) list

-- ---- calls

-- what a call comes to, in every world that came from the empty one: what is shown was
-- pending, the log grows, and the flags that are told are those of the message then
abbrev pub CallsTellFlags : Type 0
CallsTellFlags = (k : Config) (events : List Event) (w : World) (n : ℕ) (call : Call) (answer : StoreAnswer) (v : World)
    → HasSmallNumbers k → IsWorld k events w → HasShortTexts w
    → Meets k n w call answer v → IfInside answer (SeesFlags (point_of w n) (record { call = call; answer = answer }) (point_of v n))

-- what others do leaves a client as right about flags as it was
abbrev pub OthersLeaveFlags : Type 0
OthersLeaveFlags = (k : Config) (events : List Event) (w : World) (event : Event) (v : World) (n : ℕ) (client : Option Client)
    → IsWorld k events w → Step k w event v → IsOfOthers n event
    → IsRightOnFlags (point_of w n) client → IsRightOnFlags (point_of v n) client

-- ---- turns and lives

-- whatever happens in a turn: SELECT and EXAMINE begin a list of which no flags are known, and behind CLOSE and UNSELECT nothing is known
abbrev pub TurnsTellFlags : Type 0
TurnsTellFlags = (k : Config) (events : List Event) (w : World) (n : ℕ) (now : Standing) (happening : Happening) (turn : Turn) (v : World)
    (client : Option Client)
    → HasSmallNumbers k → IsWorld k events w → HasShortTexts v → Stands now → VerdictsArePrinted happening
    → leads_to now happening ≡ Some turn
    → Met (λ (w : World) (call : Call) (answer : StoreAnswer) (v : World). Meets k n w call answer v) w turn.events v
    → IsRightOnFlags (point_of w n) client → IsRightOnFlags (point_of v n) (hears client (told_of now happening turn.bytes))

-- Whatever its client sends and whatever others do, at each moment of a session's life it is right about flags.
abbrev pub LivesTellFlags : Type 0
LivesTellFlags = (k : Config) (events : List Event) (n : ℕ) (first : Standing) (began : World) (sent : List ℕ) (told : List Told)
    (now : Standing) (w : World)
    → HasSmallNumbers k → IsWorld k events began → HasShortTexts w → Stands first
    → Lives k n first began sent told now w → IsRightOnFlags (point_of w n) (hears_all None told)

-- ---- flags as they are

-- Wherever nothing is pending, whatever was asked, all that it knows of flags is what they are.
abbrev pub NothingPendingTellsFlags : Type 0
NothingPendingTellsFlags =
    (k : Config) (events : List Event) (n : ℕ) (first : Standing) (began : World) (sent : List ℕ) (told : List Told) (now : Standing)
    (w : World) (s : Session)
    → HasSmallNumbers k → IsWorld k events began → HasShortTexts w → Stands first → Lives k n first began sent told now w
    → w.session n ≡ Some s → pending (w.box s.mailbox) s ≡ [] → HasFlagsNow (w.box s.mailbox) (hears_all None told)

-- When it has read that a NOOP is OK (RFC 9051, 6.1.2), all that it knows of flags is what they are.
abbrev pub NoopTellsFlags : Type 0
NoopTellsFlags = (k : Config) (events : List Event) (n : ℕ) (first : Standing) (began : World) (sent : List ℕ) (told : List Told)
    (now : Standing) (w : World) (line whole tag : List ℕ) (turn : Turn) (v : World) (s : Session)
    → HasSmallNumbers k → IsWorld k events began → HasShortTexts v → Stands first → Lives k n first began sent told now w
    → IsAnswered k n now line w turn v → whole_line now line ≡ Some whole → read whole ≡ Ok (tag, Noop) → has_ok true tag turn.bytes ≡ true
    → v.session n ≡ Some s
    → HasFlagsNow (v.box s.mailbox) (hears_all None (told ++ Answer whole turn.bytes ∷ []))

-- and so when it has read that the IDLE is OK that its DONE ends (RFC 2177)
abbrev pub DoneTellsFlags : Type 0
DoneTellsFlags = (k : Config) (events : List Event) (n : ℕ) (first : Standing) (began : World) (sent : List ℕ) (told : List Told)
    (now : Standing) (w : World) (line tag : List ℕ) (turn : Turn) (v : World) (s : Session)
    → HasSmallNumbers k → IsWorld k events began → HasShortTexts v → Stands first → Lives k n first began sent told now w
    → IsAnswered k n now line w turn v → now.mailing.begun ≡ None → now.idling ≡ Some tag → is_done line ≡ true
    → has_ok true tag turn.bytes ≡ true → v.session n ≡ Some s
    → HasFlagsNow (v.box s.mailbox) (hears_all None (told ++ Words turn.bytes ∷ []))
