-- The house and those who talk to it, by LMTP and IMAP.
use Rattle.std.specs.Prelude.{ℕ, Bool, List, Option}
use Rattle.delivery_token.specs.declared.log.Noted.{Noted}
use Rattle.world.specs.World as world
use Rattle.world.specs.World.{World}
use Rattle.house_peers.specs.Caller.{Caller}
use Rattle.house_peers.specs.Visitor.{SeatedVisitor}
use Rattle.house.specs.Setup.{Setup}
use Rattle.house.specs.declared.event.Event.{Event}
use Rattle.house.specs.AnyScene as any
use Rattle.house.specs.LmtpAndImap.{lmtp_and_imap}
pub use Rattle.house.specs.AnyScene.{seat_of, place_of, most_serials, opens, goes_on, parts, remains, talks, lingers, waits, fades, connection_puts, session_puts, connection_hears, session_hears}

abbrev pub Scene : Type 0
Scene = any.Scene lmtp_and_imap

abbrev pub empty_scene : Setup → Scene
empty_scene = any.empty_scene lmtp_and_imap

abbrev pub with_caller : Scene → ℕ → Option Caller → Scene
with_caller = any.with_caller lmtp_and_imap

abbrev pub with_world : Scene → World → Scene
with_world = any.with_world lmtp_and_imap

abbrev pub with_visitor : Scene → ℕ → Option SeatedVisitor → Scene
with_visitor = any.with_visitor lmtp_and_imap

abbrev pub is_shut_in : Scene → ℕ → Bool
is_shut_in = any.is_shut_in lmtp_and_imap

abbrev pub LeavesMailbox : Setup → (place : ℕ) → World → World → Type 0
LeavesMailbox = any.LeavesMailbox lmtp_and_imap

abbrev pub Plays : Setup → Bool → Scene → Event → Scene → List ℕ → Type 0
Plays = any.Plays lmtp_and_imap

abbrev pub HasNothing : Setup → Scene → Event → Type 0
HasNothing = any.HasNothing lmtp_and_imap

abbrev pub BytesPlay : (k : Setup) (whole : Bool) (s : Scene) (seat : ℕ) (piece : List ℕ) (t : Scene) (printed : List ℕ) → Type 0
BytesPlay = any.BytesPlay lmtp_and_imap

abbrev pub ConnectionPuts : (k : Setup) (whole : Bool) (s : Scene) (seat : ℕ) (t : Scene) (printed : List ℕ) → Type 0
ConnectionPuts = any.ConnectionPuts lmtp_and_imap

abbrev pub ConnectionHears : (k : Setup) (whole : Bool) (s : Scene) (seat : ℕ) (t : Scene) (printed : List ℕ) → Type 0
ConnectionHears = any.ConnectionHears lmtp_and_imap

abbrev pub VanishPlay : (k : Setup) (whole : Bool) (s : Scene) (seat : ℕ) (t : Scene) (printed : List ℕ) → Type 0
VanishPlay = any.VanishPlay lmtp_and_imap

abbrev pub Parts : (k : Setup) (whole : Bool) (place : ℕ) (after : SeatedVisitor) (w v : World) (o : Option SeatedVisitor) → Type 0
Parts = any.Parts lmtp_and_imap

abbrev pub SessionTalks : (k : Setup) (whole : Bool) (place : ℕ) (heard : List Noted) (w : World) (before : SeatedVisitor) (v : World)
    (o : Option SeatedVisitor) (printed : List ℕ) → Type 0
SessionTalks = any.SessionTalks lmtp_and_imap

abbrev pub Lingers : (seat : ℕ) (heard : List Noted) (v : SeatedVisitor) (o : Option SeatedVisitor) → Type 0
Lingers = any.Lingers lmtp_and_imap

abbrev pub SessionGoes : (k : Setup) (whole : Bool) (place : ℕ) (heard : List Noted) (w : World) (before : SeatedVisitor) (v : World)
    (o : Option SeatedVisitor) (printed : List ℕ) → Type 0
SessionGoes = any.SessionGoes lmtp_and_imap

abbrev pub SessionIdles : (k : Setup) (whole : Bool) (place : ℕ) (w : World) (before : SeatedVisitor) (v : World) (o : Option SeatedVisitor)
    (printed : List ℕ) → Type 0
SessionIdles = any.SessionIdles lmtp_and_imap

abbrev pub EnterPlay : (k : Setup) (whole : Bool) (s : Scene) (place : ℕ) (user : List ℕ) (t : Scene) (printed : List ℕ) → Type 0
EnterPlay = any.EnterPlay lmtp_and_imap

abbrev pub SayPlay : (k : Setup) (whole : Bool) (s : Scene) (place : ℕ) (piece : List ℕ) (t : Scene) (printed : List ℕ) → Type 0
SayPlay = any.SayPlay lmtp_and_imap

abbrev pub IdlePlay : (k : Setup) (whole : Bool) (s : Scene) (place : ℕ) (t : Scene) (printed : List ℕ) → Type 0
IdlePlay = any.IdlePlay lmtp_and_imap

abbrev pub LeavePlay : (k : Setup) (s : Scene) (place : ℕ) (t : Scene) (printed : List ℕ) → Type 0
LeavePlay = any.LeavePlay lmtp_and_imap

abbrev pub SessionPuts : (k : Setup) (whole : Bool) (s : Scene) (place : ℕ) (t : Scene) (printed : List ℕ) → Type 0
SessionPuts = any.SessionPuts lmtp_and_imap

abbrev pub SessionHears : (k : Setup) (whole : Bool) (s : Scene) (place : ℕ) (t : Scene) (printed : List ℕ) → Type 0
SessionHears = any.SessionHears lmtp_and_imap

abbrev pub PutPlay : (k : Setup) (whole : Bool) (s : Scene) (seat : ℕ) (t : Scene) (printed : List ℕ) → Type 0
PutPlay = any.PutPlay lmtp_and_imap

abbrev pub HearPlay : (k : Setup) (whole : Bool) (s : Scene) (seat : ℕ) (t : Scene) (printed : List ℕ) → Type 0
HearPlay = any.HearPlay lmtp_and_imap

abbrev pub Moves : (k : Setup) (s : Scene) (event : world.Event) (t : Scene) (printed : List ℕ) → Type 0
Moves = any.Moves lmtp_and_imap

abbrev pub ClosePlay : (k : Setup) (s : Scene) (shard : ℕ) (t : Scene) (printed : List ℕ) → Type 0
ClosePlay = any.ClosePlay lmtp_and_imap
