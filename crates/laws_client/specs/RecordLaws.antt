-- What holds of what a session counts, in every world.
use Rattle.std.specs.Prelude.{◌≡◌, ℕ, ◌<◌, Bool, List, [], Contains, Some}
use Rattle.world.specs.World.{Config, World, Session, Event, IsWorld, Step, Steps, next_uid}
use Rattle.mailbox.specs.declared.clients.Opening.{Opening}
use Rattle.imap_session.specs.Exchange.{Call, Answer, Enter, Leave, Entered, Left}
use Rattle.house.specs.Meets.{Meets}
use Rattle.laws_client.specs.Fetches.{IsNumbered}
use Rattle.laws_client.specs.ListTurns.{Sees}
use Rattle.laws_client.specs.Sizes.{HasShortTexts}
use Rattle.laws_client.specs.HouseClients.{HasSmallNumbers}
use Rattle.laws_client.specs.Views.{IsOpened, NamesTheSame, messages_of, view_of}
use Rattle.laws_client.specs.HouseClients.{IsOfOthers}

-- its UIDs and its positions are numbers that a line can have
abbrev pub ViewsAreNumbered : Type 0
ViewsAreNumbered = (k : Config) (events : List Event) (w : World) (n : ℕ) → HasSmallNumbers k → IsWorld k events w → IsNumbered (view_of w n)

-- what others do leaves it as it was
abbrev pub OthersLeaveViews : Type 0
OthersLeaveViews = (k : Config) (events : List Event) (w : World) (event : Event) (v : World) (n : ℕ) → IsWorld k events w
    → Step k w event v → IsOfOthers n event → view_of v n ≡ view_of w n

-- A UID that a session counts is the name of one copy for good: whatever happens
-- later, the same copy stands under it in its mailbox's history, and no other
abbrev pub UidsStay : Type 0
UidsStay = (k : Config) (events : List Event) (w : World) (later : List Event) (v : World) (n uid : ℕ) (s : Session) → IsWorld k events w
    → Steps k w later v
    → w.session n ≡ Some s → Contains (view_of w n) uid → NamesTheSame uid (w.box s.mailbox) (v.box s.mailbox)

-- and a message that is gone doesn't come back: one that is there later, under a UID that was given, was there already
abbrev pub GoneStayGone : Type 0
GoneStayGone = (k : Config) (events : List Event) (w : World) (later : List Event) (v : World) (m uid : ℕ) → IsWorld k events w → Steps k w later v
    → uid < next_uid k (w.box m) → Contains (messages_of (v.box m)) uid → Contains (messages_of (w.box m)) uid

-- each UID that a session counts was given
abbrev pub CountedAreGiven : Type 0
CountedAreGiven = (k : Config) (events : List Event) (w : World) (n uid : ℕ) (s : Session) → IsWorld k events w → w.session n ≡ Some s
    → Contains (view_of w n) uid → uid < next_uid k (w.box s.mailbox)

-- ---- calls of a session

-- What a call comes to: the session's client may be shown what it shows, it reads
-- the row of the UID that was asked for, and it counts what can be printed
abbrev pub CallsAreSeen : Type 0
CallsAreSeen = (k : Config) (events : List Event) (w : World) (n : ℕ) (call : Call) (answer : Answer) (v : World) → HasSmallNumbers k
    → IsWorld k events w → HasShortTexts w
    → Meets k n w call answer v → Sees (view_of w n) (record { call = call; answer = answer }) (view_of v n)

-- a session that enters counts all that is there
abbrev pub EntriesAreCounted : Type 0
EntriesAreCounted = (k : Config) (events : List Event) (w : World) (n m : ℕ) (opening : Opening) (v : World) → HasSmallNumbers k → IsWorld k events w
    → Meets k n w (Enter m) (Entered opening) v → IsOpened k opening (w.box m) (view_of v n)

-- and one that leaves counts nothing
abbrev pub LeaversCountNothing : Type 0
LeaversCountNothing =
    (k : Config) (w : World) (n : ℕ) (remove : Bool) (gone : ℕ) (v : World) → Meets k n w (Leave remove) (Left gone) v → view_of v n ≡ []
