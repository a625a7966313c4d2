-- What bodies and proofs say besides: what a call of the house promises: for each scene for which it stood, a scene to which the event leads.
use Rattle.std.specs.Prelude.{◌≡◌, ℕ, ◌+◌, ◌<◌, ◌≤◌, ◌⊎◌, ◌++◌, slice_index_or, Bool, true, false, List, [], ◌∷◌, length, Option, Some, None, IsSome}
use Rattle.delivery_token.specs.declared.CopyKey.{CopyKey}
use Rattle.delivery_token.specs.declared.log.Noted.{Noted}
use Rattle.delivery_token.specs.declared.Job.{Job}
use Rattle.delivery_token.specs.declared.verdicts.NextCopy.{NextCopy}
use Rattle.world.specs.World.{World}
use Rattle.delivery_core.specs.DeliveryCore.{DeliveryCore}
use Rattle.delivery_core.specs.Changes.{SameDelivery}
use Rattle.delivery_core.specs.Puts.{IsNextKey}
use Rattle.delivery_core.specs.Stands as core
use Rattle.delivery_core.specs.declared.steps.Fault.{Fault}
use Rattle.delivery_core.specs.declared.steps.Fault.TheVariants as faults
use Rattle.house.specs.declared.event.HouseFault.{HouseFault}
use Rattle.house.specs.declared.event.HouseFault.TheVariants as house_faults
use Rattle.house_peers.specs.HouseConnection.{HouseConnection}
use Rattle.house.specs.House.{House}
use Rattle.house_peers.specs.Caller.{Caller, Terms}
use Rattle.house.specs.Setup.{Setup, session_seat}
use Rattle.envelope.specs.Names.{Directory}
use Rattle.lmtp_machine.specs.declared.connection.What.{What}
use Rattle.lmtp_machine.specs.declared.connection.What.TheVariants.{Quit}
use Rattle.house.specs.Printing.{ConnectionGoes}
use Rattle.house.specs.Scene.{Lingers, SessionGoes, SessionIdles, SessionTalks, most_serials, place_of, seat_of}
use Rattle.imap_session.specs.Folders.{has_user}
use Rattle.house_peers.specs.HouseSession.{with_more}
use Rattle.house_peers.specs.ConnectionStands.{StandsForConnection}
use Rattle.house_peers.specs.SeatedSession.{SeatedSession, StandsForSeated, with_place}
use Rattle.house_peers.specs.Visitor.{SeatedVisitor}
use Rattle.house.specs.Steps.{IsEmptySeat, is_left, is_unread}

-- there is such a connection
pub record HasSeat (h : House) (connection : ℕ) : Type 0 where
  pub number : 0 < connection
  pub seat : connection ≤ length h.callers

-- somebody stands there whose peer is there too
pub record IsRead (h : House) (connection : ℕ) : Type 0 where
  pub number : 0 < connection
  pub seat : connection ≤ length h.callers
  pub who : IsSome (slice_index_or h.callers (seat_of connection) None)
  pub read : is_unread (slice_index_or h.callers (seat_of connection) None) ≡ false

-- nobody stands at the connection's seat, which takes another
pub record IsOpen (h : House) (connection : ℕ) : Type 0 where
  pub number : 0 < connection
  pub seat : connection ≤ length h.callers
  pub empty : IsEmptySeat h connection
  pub more : slice_index_or h.serials (seat_of connection) 0 < most_serials

-- this is the number of a session, behind those of connections
pub record IsSession (h : House) (number : ℕ) : Type 0 where
  pub behind : length h.callers < number
  pub within : number ≤ length h.callers + length h.visitors

-- a session is at its place, and its client is there
pub record IsTalking (h : House) (session : ℕ) : Type 0 where
  pub number : 0 < session
  pub place : session ≤ length h.visitors
  pub who : IsSome (slice_index_or h.visitors (place_of session) None)
  pub read : is_left (slice_index_or h.visitors (place_of session) None) ≡ false

-- nobody is at the session's place, whose seat takes another, and there is such a user
pub record CanEnter (h : House) (session : ℕ) (user : List ℕ) : Type 0 where
  pub number : 0 < session
  pub place : session ≤ length h.visitors
  pub free : slice_index_or h.visitors (place_of session) None ≡ None
  pub known : has_user h.directory user ≡ true
  pub more : slice_index_or h.entered (place_of session) 0 < most_serials

-- who may stand at a place, and for whom
abbrev pub StandsForMaybe : Terms → ℕ → CopyKey → List Noted → Option HouseConnection → Option Caller → Type 0
StandsForMaybe k seat next heard None None = Unit {0}
StandsForMaybe k seat next heard None (Some b) = ⊥
StandsForMaybe k seat next heard (Some h) None = ⊥
StandsForMaybe k seat next heard (Some h) (Some b) = StandsForConnection k seat next heard h b

-- a connection's number and directory are those of the house
pub record IsOf (k : Terms) (number seat : ℕ) (directory : Directory) : Type 0 where
  pub numbered : number ≡ seat + 1
  pub looks_up : directory ≡ k.directory

-- after a caller went on: it is gone, or stands there still
abbrev pub IsStillThere : Terms → ℕ → CopyKey → List Noted → What → HouseConnection → Option Caller → Type 0
IsStillThere k seat next heard what h None = what ≡ Quit
IsStillThere k seat next heard what h (Some b) = (what ≡ Quit → ⊥) × StandsForConnection k seat next heard h b

-- From this caller the connection did what it could and this was printed, and it stands for the caller after it.
pub record ConnectionWent (k : Terms) (whole : Bool) (seat : ℕ) (next : CopyKey) (heard : List Noted) (b : Caller) (what : What) (h : HouseConnection)
    (old new : List ℕ) : Type 0 where
  pub left : Option Caller
  pub printed : List ℕ
  pub goes : ConnectionGoes k whole seat heard b left printed
  pub there : IsStillThere k seat next heard what h left
  pub out : new ≡ old ++ printed

-- the caller at a seat went on, and printed this
pub record CallerWentOn (k : Terms) (whole : Bool) (seat : ℕ) (next : CopyKey) (heard : List Noted) (b : Caller) (h : Option HouseConnection)
    (old new : List ℕ) : Type 0 where
  pub left : Option Caller
  pub printed : List ℕ
  pub goes : ConnectionGoes k whole seat heard b left printed
  pub there : StandsForMaybe k seat next heard h left
  pub out : new ≡ old ++ printed

-- a fault of the delivery core, as one of the house
abbrev pub fault_of : Fault → HouseFault
fault_of faults.Nobody = house_faults.Nobody
fault_of faults.Nothing = house_faults.Nothing

-- the copy that is lent
abbrev pub job_of : NextCopy → Job
job_of copy = record { key = copy.key; mailbox = copy.mailbox; text = copy.text.now; flags = copy.flags }

-- the copy may not be put: its key isn't the next that its seat may use
abbrev pub IsNoNext : DeliveryCore → Job → Type 0
IsNoNext old c = IsNextKey old c.key c.mailbox → ⊥

-- there is no copy to put, or it may not be put
abbrev pub MayNotPut : DeliveryCore → List Job → Type 0
MayNotPut old due = (due ≡ []) ⊎ ((c : Job) × (others : List Job) × (due ≡ c ∷ others) × IsNoNext old c)

-- ---- sessions

-- who may be at a place, and for whom
abbrev pub StandsForSomebody : (seat : ℕ) → CopyKey → List Noted → Option SeatedSession → Option SeatedVisitor → Type 0
StandsForSomebody seat next heard None None = Unit {0}
StandsForSomebody seat next heard None (Some v) = ⊥
StandsForSomebody seat next heard (Some p) None = ⊥
StandsForSomebody seat next heard (Some p) (Some v) = StandsForSeated seat next heard p v

-- bytes more came for a session
abbrev pub with_more_came : List ℕ → SeatedSession → SeatedSession
with_more_came piece p = with_place (with_more piece p.place) p

-- One whose client is gone stays for its verdict, or is gone.
pub record HasLingered (seat : ℕ) (next : CopyKey) (heard : List Noted) (b : SeatedVisitor) (p : Option SeatedSession) : Type 0 where
  pub left : Option SeatedVisitor
  pub lingers : Lingers seat heard b left
  pub there : StandsForSomebody seat next heard p left

-- The session at a place went on, and printed this; the delivery side stands for what it did.
pub record PlaceVisited (k : Setup) (whole : Bool) (place : ℕ) (next : CopyKey) (heard : List Noted) (w : World) (b : SeatedVisitor)
    (p : Option SeatedSession) (new : DeliveryCore) (before after : List ℕ) : Type 0 where
  pub left : Option SeatedVisitor
  pub moved : World
  pub printed : List ℕ
  pub goes : SessionGoes k whole place heard w b moved left printed
  pub there : StandsForSomebody (session_seat k place) next heard p left
  pub core : core.StandsFor k.config new moved
  pub out : after ≡ before ++ printed

-- The same of one whose client is there.
pub record PlaceTalked (k : Setup) (whole : Bool) (place : ℕ) (next : CopyKey) (heard : List Noted) (w : World) (b : SeatedVisitor)
    (p : Option SeatedSession) (new : DeliveryCore) (before after : List ℕ) : Type 0 where
  pub left : Option SeatedVisitor
  pub moved : World
  pub printed : List ℕ
  pub goes : SessionTalks k whole place heard w b moved left printed
  pub there : StandsForSomebody (session_seat k place) next heard p left
  pub core : core.StandsFor k.config new moved
  pub out : after ≡ before ++ printed

-- The session at a place had a turn while it idles, and printed this; the delivery side stands for what it did.
pub record PlaceIdled (k : Setup) (whole : Bool) (place : ℕ) (next : CopyKey) (heard : List Noted) (w : World) (b : SeatedVisitor)
    (old : DeliveryCore) (p : Option SeatedSession) (new : DeliveryCore) (before after : List ℕ) : Type 0 where
  pub left : Option SeatedVisitor
  pub moved : World
  pub printed : List ℕ
  pub goes : SessionIdles k whole place w b moved left printed
  pub there : StandsForSomebody (session_seat k place) next heard p left
  pub core : core.StandsFor k.config new moved
  pub rest : SameDelivery old new
  pub out : after ≡ before ++ printed

-- It had none, and all is as it was.
pub record PlaceKept (k : Setup) (place : ℕ) (next : CopyKey) (heard : List Noted) (w : World) (b : SeatedVisitor) (old : DeliveryCore)
    (p : Option SeatedSession) (new : DeliveryCore) (before after : List ℕ) : Type 0 where
  pub there : StandsForSomebody (session_seat k place) next heard p (Some b)
  pub core : core.StandsFor k.config new w
  pub rest : SameDelivery old new
  pub out : after ≡ before

-- where memory was wanting: no turn, or one whose words aren't printed yet
abbrev pub PlaceIdledInPart : Setup → ℕ → CopyKey → List Noted → World → SeatedVisitor → DeliveryCore → Option SeatedSession → DeliveryCore → List ℕ
    → List ℕ → Type 0
PlaceIdledInPart k place next heard w b old p new before after = PlaceIdled k false place next heard w b old p new before after
    ⊎ PlaceKept k place next heard w b old p new before after

-- In no world for which the delivery side stood does the session at a place have a turn.
abbrev pub HasNoTurn : ℕ → Option SeatedSession → DeliveryCore → Type 0
HasNoTurn place p old = (k : Setup) (next : CopyKey) (heard : List Noted) (w v : World) (b : SeatedVisitor) (o : Option SeatedVisitor)
    (printed : List ℕ) → core.StandsFor k.config old w → StandsForSomebody (session_seat k place) next heard p (Some b)
    → SessionIdles k true place w b v o printed → ⊥
