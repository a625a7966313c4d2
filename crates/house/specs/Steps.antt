-- What a call of the house promises: for each scene for which it stood, a scene to which the event leads.
use Rattle.std.specs.Option.{is_some}
use Rattle.std.specs.Prelude.{◌≡◌, ℕ, ◌+◌, ◌-◌, ◌<◌, if◌then◌else◌, nat_lt, ◌≤◌, ◌⊎◌, ◌++◌, ◌%◌, slice_index_or, slice_set, Bool, true, false, List, [], ◌∷◌, length, Option, Some, None, IsSome}
use Rattle.envelope.specs.Names.{is_shut}
use Rattle.delivery_token.specs.WorkerLog.{WorkerLog}
use Rattle.delivery_token.specs.declared.log.Noted.{Noted}
use Rattle.house.specs.declared.event.Event.{Event}
use Rattle.house.specs.declared.event.Event.TheVariants.{Bytes, Vanish, Put, Take, Deliver, Answer, Hear, End, Close, Enter, Say, Idle, Leave}
use Rattle.delivery_token.specs.declared.Job.{Job}
use Rattle.delivery_token.specs.declared.Refusal.{Refusal}
use Rattle.world.specs.World.{Config}
use Rattle.world.specs.World as world
use Rattle.delivery_core.specs.DeliveryCore.{DeliveryCore, behind, client_of}
use Rattle.delivery_core.specs.Changes.{Hears, SameCounts, SameDelivery}
use Rattle.delivery_token.specs.Copies.{heard_at_once}
use Rattle.delivery_token.specs.Keys.{past}
use Rattle.delivery_core.specs.Stands as core
use Rattle.house_peers.specs.HouseConnection.{HouseConnection}
use Rattle.house_peers.specs.Taking.{HasWork, due}
use Rattle.house.specs.House.{House}
use Rattle.house.specs.Setup.{Setup}
use Rattle.house.specs.Scene.{Scene, HasNothing, Plays, most_serials, place_of, seat_of}
use Rattle.imap_session.specs.Exchange.{is_idling}
use Rattle.imap_session.specs.Folders.{has_user}
use Rattle.house.specs.Stands.{StandsFor}
use Rattle.house_peers.specs.SeatedSession.{SeatedSession}
use Rattle.house_peers.specs.SeatedSession as seat

-- ---- who is there

-- there is no such connection: they are numbered from 1
abbrev pub IsNoSeat : House → ℕ → Type 0
IsNoSeat h connection = (connection ≡ 0) ⊎ (length h.callers < connection)

-- nobody stands at the connection's seat
abbrev pub IsEmptySeat : House → ℕ → Type 0
IsEmptySeat h connection = slice_index_or h.callers (seat_of connection) None ≡ None

-- somebody stands at this seat or place, and the peer is gone
abbrev pub is_gone_at : {P : Type 0} → (P → Bool) → Option P → Bool
is_gone_at gone None = false
is_gone_at gone (Some p) = gone p

abbrev pub is_unread : Option HouseConnection → Bool
is_unread l = is_gone_at (λ (h : HouseConnection). h.gone) l

-- somebody stands at the connection's seat whose peer is gone
pub record IsUnread (h : House) (connection : ℕ) : Type 0 where
  pub number : 0 < connection
  pub seat : connection ≤ length h.callers
  pub gone : is_unread (slice_index_or h.callers (seat_of connection) None) ≡ true

-- the seat takes no new connection: its serials are spent
abbrev pub IsSpent : House → ℕ → Type 0
IsSpent h connection = most_serials ≤ slice_index_or h.serials (seat_of connection) 0

-- there is no such session: they are numbered from 1
abbrev pub IsNoPlace : House → ℕ → Type 0
IsNoPlace h session = (session ≡ 0) ⊎ (length h.visitors < session)

-- nobody is at the session's place
abbrev pub IsFreePlace : House → ℕ → Type 0
IsFreePlace h session = slice_index_or h.visitors (place_of session) None ≡ None

-- somebody is at the session's place
pub record IsTakenPlace (h : House) (session : ℕ) : Type 0 where
  pub number : 0 < session
  pub place : session ≤ length h.visitors
  pub who : IsSome (slice_index_or h.visitors (place_of session) None)

-- a session is at this place, and its client is gone
abbrev pub is_left : Option SeatedSession → Bool
is_left p = is_gone_at (λ (q : SeatedSession). q.gone) p

-- a session is at its place whose client is gone
pub record IsLeft (h : House) (session : ℕ) : Type 0 where
  pub number : 0 < session
  pub place : session ≤ length h.visitors
  pub gone : is_left (slice_index_or h.visitors (place_of session) None) ≡ true

-- the session's seat takes no new one: its serials are spent
abbrev pub IsSpentPlace : House → ℕ → Type 0
IsSpentPlace h session = most_serials ≤ slice_index_or h.entered (place_of session) 0

-- there is no connection and no session of this number (those of sessions are behind those of connections), or no seat for it
abbrev pub IsNoNumber : House → ℕ → Type 0
IsNoNumber h number = (number ≡ 0) ⊎ ((length h.callers + length h.visitors < number) ⊎ (length h.core.replies < number))

-- whether the connection or the session of a seat is there
abbrev pub is_taken : House → (seat : ℕ) → Bool
is_taken h seat = if nat_lt seat (length h.callers) then is_some (slice_index_or h.callers seat None)
    else is_some (slice_index_or h.visitors (seat - length h.callers) None)

-- it isn't
abbrev pub IsVacant : House → ℕ → Type 0
IsVacant h number = is_taken h (seat_of number) ≡ false

-- the shard is there and shut
abbrev pub IsClosed : House → ℕ → Type 0
IsClosed h shard = (shard < h.directory.shards) × (is_shut h.directory shard ≡ true)

-- ---- which fault

-- there is nobody to whom the event could happen
abbrev pub IsNobody : House → Event → Type 0
IsNobody h (Bytes connection piece) = IsNoSeat h connection ⊎ (IsEmptySeat h connection × IsSpent h connection)
IsNobody h (Vanish connection) = IsNoSeat h connection ⊎ IsEmptySeat h connection
IsNobody h (Put number) = IsNoNumber h number ⊎ IsVacant h number
IsNobody h (Take shard) = length h.core.lanes ≤ shard
IsNobody h (Deliver shard) = length h.core.lanes ≤ shard
IsNobody h (Answer shard) = length h.core.lanes ≤ shard
IsNobody h (Hear number) = IsNoNumber h number ⊎ IsVacant h number
IsNobody h (End number shard) = IsNoNumber h number ⊎ (length h.core.lanes ≤ shard)
IsNobody h (Close shard) = h.directory.shards ≤ shard
IsNobody h (Enter session user) = IsNoPlace h session ⊎ (has_user h.directory user.now ≡ false ⊎ (IsFreePlace h session × IsSpentPlace h session))
IsNobody h (Say session piece) = IsNoPlace h session ⊎ IsFreePlace h session
IsNobody h (Idle session) = IsNoPlace h session ⊎ IsFreePlace h session
IsNobody h (Leave session) = IsNoPlace h session ⊎ IsFreePlace h session

-- The seat still awaits verdicts for a peer that is gone; a shard that is shut is shut once; and where a session is at a place no other enters.
abbrev pub IsBusy : House → Event → Type 0
IsBusy h (Bytes connection piece) = IsUnread h connection
IsBusy h (Vanish connection) = IsUnread h connection
IsBusy h (Put connection) = ⊥
IsBusy h (Take shard) = ⊥
IsBusy h (Deliver shard) = ⊥
IsBusy h (Answer shard) = ⊥
IsBusy h (Hear connection) = ⊥
IsBusy h (End number shard) = ⊥
IsBusy h (Close shard) = IsClosed h shard
IsBusy h (Enter session user) = (has_user h.directory user.now ≡ true) × IsTakenPlace h session
IsBusy h (Say session piece) = IsLeft h session
IsBusy h (Idle session) = IsLeft h session
IsBusy h (Leave session) = IsLeft h session

-- ---- what is promised

-- The event leads from the scene to one for which the house stands now, and what was appended is what it prints.
pub record Led (k : Setup) (whole : Bool) (s : Scene) (event : Event) (h : House) (old new : List ℕ) : Type 0 where
  pub after : Scene
  pub printed : List ℕ
  pub plays : Plays k whole s event after printed
  pub stands : StandsFor k h after
  pub out : new ≡ old ++ printed

-- so it is from each scene for which it stood
abbrev pub Follows : House → Event → House → List ℕ → List ℕ → Type 0
Follows before event h old new = (k : Setup) (s : Scene) → StandsFor k before s → Led k true s event h old new

-- Where memory was wanting: the event was cut short, or nothing happened.
abbrev pub FollowsInPart : House → Event → House → List ℕ → List ℕ → Type 0
FollowsInPart before event h old new = (k : Setup) (s : Scene) → StandsFor k before s → Led k false s event h old new
    ⊎ (StandsFor k h s × (new ≡ old))

-- What the house does by itself opens and shuts no shard.
abbrev pub KeepsMarks : Event → House → House → Type 0
KeepsMarks (Put number) old new = new.directory ≡ old.directory
KeepsMarks (Take shard) old new = new.directory ≡ old.directory
KeepsMarks (Deliver shard) old new = new.directory ≡ old.directory
KeepsMarks (Answer shard) old new = new.directory ≡ old.directory
KeepsMarks (Hear number) old new = new.directory ≡ old.directory
KeepsMarks (End number shard) old new = new.directory ≡ old.directory
KeepsMarks (Bytes connection piece) old new = Unit {0}
KeepsMarks (Vanish connection) old new = Unit {0}
KeepsMarks (Close shard) old new = Unit {0}
KeepsMarks (Enter session user) old new = Unit {0}
KeepsMarks (Say session piece) old new = Unit {0}
KeepsMarks (Idle session) old new = Unit {0}
KeepsMarks (Leave session) old new = Unit {0}

-- In no scene for which it stood does the event change anything.
abbrev pub ChangesNothing : House → Event → Type 0
ChangesNothing before event = (k : Setup) (s : Scene) → StandsFor k before s → HasNothing k s event

-- An event that may find nothing to do: one of the house's own, or an idle turn. None that a peer or a client causes does, nor a shard's close.
abbrev pub MayFindNothing : Event → Type 0
MayFindNothing (Put number) = Unit {0}
MayFindNothing (Take shard) = Unit {0}
MayFindNothing (Deliver shard) = Unit {0}
MayFindNothing (Answer shard) = Unit {0}
MayFindNothing (Hear number) = Unit {0}
MayFindNothing (End number shard) = Unit {0}
MayFindNothing (Idle session) = Unit {0}
MayFindNothing (Bytes connection piece) = ⊥
MayFindNothing (Vanish connection) = ⊥
MayFindNothing (Close shard) = ⊥
MayFindNothing (Enter session user) = ⊥
MayFindNothing (Say session piece) = ⊥
MayFindNothing (Leave session) = ⊥

-- the copies that are still to be put at a seat, by its connection or by its session
abbrev pub due_by : Option HouseConnection → List Job
due_by None = []
due_by (Some h) = due h

abbrev pub due_of : Option SeatedSession → List Job
due_of None = []
due_of (Some p) = seat.due p

abbrev pub due_at : House → (seat : ℕ) → List Job
due_at h seat = if nat_lt seat (length h.callers) then due_by (slice_index_or h.callers seat None)
    else due_of (slice_index_or h.visitors (seat - length h.callers) None)

-- the delivery side took this copy, and told at once what was heard of it
pub record CorePuts (old : DeliveryCore) (c : Job) (new : DeliveryCore) (why : Option Refusal) : Type 0 where
  pub follows : (k : Config) → core.Follows k old (world.Put c.key.seat (c.mailbox % length old.lanes) c ∷ []) new
  pub next : new.next ≡ slice_set old.next c.key.seat (past c.key)
  pub heard : Hears old new c.key.seat (heard_at_once c.key c.mailbox why)
  pub counts : SameCounts old new

-- of the copies that are still to be put the first was
pub record PutsNext (old : DeliveryCore) (due : List Job) (new : DeliveryCore) (why : Option Refusal) : Type 0 where
  pub copy : Job
  pub others : List Job
  pub front : due ≡ copy ∷ others
  pub puts : CorePuts old copy new why

-- the log of a seat has no room for the note of a verdict
abbrev pub HasNoRoom : DeliveryCore → ℕ → Type 0
HasNoRoom h seat = (d : WorkerLog) → (slice_index_or h.heard seat d).spare ≡ 0

-- the first of them is of a seat whose log has no room for the note of a refusal
pub record CannotNote (old : DeliveryCore) (due : List Job) : Type 0 where
  pub copy : Job
  pub others : List Job
  pub front : due ≡ copy ∷ others
  pub room : HasNoRoom old copy.key.seat

-- of these copies the first can't be put, or it was, and nothing else happened between seats and mailboxes
abbrev pub MayWantToPut : List Job → DeliveryCore → DeliveryCore → Type 0
MayWantToPut due old new = CannotNote old due ⊎ ((put : DeliveryCore) × (why : Option Refusal) × PutsNext old due put why × SameDelivery put new)

-- The session at a place may have a turn: its client is there, it idles in a mailbox, and isn't known to have been shown all of its log.
pub record MayIdle (p : SeatedSession) (place : ℕ) (core : DeliveryCore) : Type 0 where
  pub is_read : p.gone ≡ false
  pub idling : is_idling p.place.link.session ≡ true
  pub selected : IsSome p.place.link.session.selected
  pub news : IsSome (client_of core place) → behind core place ≡ 0 → ⊥

-- who stands at a connection's seat, and at a session's place
abbrev pub caller_at : House → (connection : ℕ) → Option HouseConnection
caller_at h connection = slice_index_or h.callers (seat_of connection) None

abbrev pub visitor_at : House → (session : ℕ) → Option SeatedSession
visitor_at h session = slice_index_or h.visitors (place_of session) None

-- Who goes on may want memory where there was something to be done, or where something was said that couldn't be printed: so of a connection, and of
-- a session.
pub data CallerWants (old new : Option HouseConnection) : Type 0 where
  caller_works : (h : HouseConnection) → old ≡ Some h → HasWork h → CallerWants old new
  caller_unprinted : (h : HouseConnection) → new ≡ Some h → 0 < length h.unsaid → CallerWants old new

pub data VisitorWants (old new : Option SeatedSession) : Type 0 where
  visitor_works : (p : SeatedSession) → old ≡ Some p → seat.HasWork p → VisitorWants old new
  visitor_unprinted : (p : SeatedSession) → new ≡ Some p → 0 < length p.place.unsaid → VisitorWants old new

-- When an event may be refused for want of memory. A take, a delivery, an answer, an end, a close, a leave and a peer that is gone ask for none. A
-- put and a hearing ask before anything is done for the room of one note alone, and an idling session for what there is to show. Bytes ask for it
-- where a connection is opened for them, where there are any, and else only where whoever they are for goes on.
abbrev pub MayWant : Event → House → House → Type 0
MayWant (Take shard) old new = ⊥
MayWant (Deliver shard) old new = ⊥
MayWant (Answer shard) old new = ⊥
MayWant (End connection shard) old new = ⊥
MayWant (Close shard) old new = ⊥
MayWant (Leave session) old new = ⊥
MayWant (Vanish connection) old new = ⊥
MayWant (Put number) old new = MayWantToPut (due_at old (seat_of number)) old.core new.core
MayWant (Hear number) old new = HasNoRoom old.core (seat_of number) ⊎ ((r : Noted) × Hears old.core new.core (seat_of number) (r ∷ []))
MayWant (Idle session) old new = (p : SeatedSession) × (slice_index_or old.visitors (place_of session) None ≡ Some p)
    × MayIdle p (place_of session) old.core
MayWant (Bytes connection piece) old new = IsEmptySeat old connection
    ⊎ ((0 < length piece.now) ⊎ CallerWants (caller_at old connection) (caller_at new connection))
MayWant (Enter session user) old new = Unit {0}
MayWant (Say session piece) old new = (0 < length piece.now) ⊎ VisitorWants (visitor_at old session) (visitor_at new session)
