-- Which verdicts sessions answered, by the record of a house: those on the messages that their clients appended.
use Rattle.std.specs.Prelude.{◌≡◌, ℕ, Bool, false, List, [], ◌∷◌, ◌++◌, All, AllPairs, Contains, Option}
use Rattle.delivery_token.specs.Keys.{Below}
use Rattle.delivery_token.specs.declared.CopyKey.{CopyKey}
use Rattle.delivery_token.specs.declared.Verdict.{Verdict}
use Rattle.delivery_token.specs.declared.Verdict.TheVariants.{Stored}
use Rattle.delivery_token.specs.declared.log.Noted.{Noted}
use Rattle.delivery_token.specs.Copies.{HeardFor}
use Rattle.imap_session.specs.Exchange.{Call, Answer as StoreAnswer}
use Rattle.house.specs.Meets.{Meets}
use Rattle.world.specs.World.{Event as WorldEvent, IsWorld, World}
use Rattle.world.specs.Law.{StandsOnce, pairs}
use Rattle.imap_session.specs.Folders.{folders_of}
use Rattle.house_peers.specs.Visitor.{more_waits, GoesOn, SeatedVisitor, answers, keys_of, rests, seated_greeted, sent_by, stalls, waits, works}
use Rattle.house.specs.Setup.{Setup, admitted_in, session_seat}
use Rattle.house.specs.Printing.{with_session}
use Rattle.house.specs.Scene.{HearPlay, Plays, PutPlay, Scene, SessionGoes, SessionTalks, connection_hears, connection_puts, empty_scene, lingers, place_of, seat_of, session_hears, session_puts, talks}
use Rattle.house.specs.declared.event.Event as house
use Rattle.house.specs.declared.event.Event.TheVariants.{Enter, Hear, Put, Say}
use Rattle.exactly_once.specs.Promise.{Entry, IsRecord, text_of}

-- ---- at one event

-- the verdict that a seat has heard for the key of a message that a session awaits
abbrev pub noted_for : (heard : List Noted) (keys : List CopyKey) (verdict : Verdict) → HeardFor heard keys (verdict ∷ []) → List Noted
noted_for heard [] verdict h = []
noted_for heard (key ∷ keys) verdict h = record { key = key; mailbox = h.0.0; verdict = verdict } ∷ []

-- the verdict that a session answers as it goes on: what it awaits, by what its seat has heard
abbrev pub answered_as : {S : Type 0} (step : S → Call → StoreAnswer → S → Type 0) (whole : Bool) (seat : ℕ) (heard : List Noted) (v : SeatedVisitor)
    (old new : S) (after : SeatedVisitor) (said : List ℕ)
    → GoesOn step whole seat heard v old new after said → List Noted
answered_as step whole seat heard v old new after said (answers verdict mid first second how next going known answer more is) =
    noted_for heard (keys_of seat v.serial (sent_by v)) verdict known.each
answered_as step whole seat heard v old new after said (works none answer) = []
answered_as step whole seat heard v old new after said (waits unheard same stays silent) = []
answered_as step whole seat heard v old new after said (rests ended same stays silent) = []
answered_as step whole seat heard v old new after said (stalls part same stays silent) = []

abbrev pub answered_in_talk : (k : Setup) (place : ℕ) (heard : List Noted) (w : World) (before : SeatedVisitor) (v : World) (o : Option SeatedVisitor)
    (printed : List ℕ) → SessionTalks k false place heard w before v o printed → List Noted
answered_in_talk k place heard w before v o printed g = answered_as (Meets k.config place) false
    (session_seat k place) heard before w g.mid g.speaks.spoken g.speaks.said g.speaks.goes

-- one whose client is gone answers none
abbrev pub answered_in_turn : (k : Setup) (place : ℕ) (heard : List Noted) (w : World) (before : SeatedVisitor) (v : World) (o : Option SeatedVisitor)
    (printed : List ℕ) → SessionGoes k false place heard w before v o printed → List Noted
answered_in_turn k place heard w before v o printed (talks there g) = answered_in_talk k place heard w before v o printed g
answered_in_turn k place heard w before v o printed (lingers gone stays same silent) = []

abbrev pub answered_at_put : (k : Setup) (s : Scene) (seat : ℕ) (t : Scene) (printed : List ℕ) → PutPlay k false s seat t printed → List Noted
answered_at_put k s seat t printed (connection_puts few p) = []
answered_at_put k s seat t printed (session_puts place is p) =
    answered_in_turn k place (p.moved.heard (session_seat k place)) p.moved
    (record { session = p.visitor.session; serial = p.visitor.serial; gone = p.visitor.gone; to_put = p.others }) p.later p.left printed p.goes

abbrev pub answered_at_hear : (k : Setup) (s : Scene) (seat : ℕ) (t : Scene) (printed : List ℕ) → HearPlay k false s seat t printed → List Noted
answered_at_hear k s seat t printed (connection_hears few p) = []
answered_at_hear k s seat t printed (session_hears place is p) =
    answered_in_turn k place (p.moved.heard (session_seat k place)) p.moved p.visitor p.later p.left printed p.goes

-- the verdict that a session answered at an event, where it did
abbrev pub answered_at : (k : Setup) (s : Scene) (event : house.Event) (t : Scene) (printed : List ℕ) → Plays k false s event t printed → List Noted
answered_at k s (Put number) t printed p = answered_at_put k s (seat_of number) t printed p
answered_at k s (Hear number) t printed p = answered_at_hear k s (seat_of number) t printed p
answered_at k s (Enter session user) t printed p =
    answered_in_talk k (place_of session) (s.world.heard (session_seat k (place_of session))) s.world
    (seated_greeted (s.entered (place_of session)) (admitted_in k user.now) (folders_of k.directory user.now)) p.moved p.left printed p.goes
answered_at k s (Say session piece) t printed p =
    answered_in_talk k (place_of session) (s.world.heard (session_seat k (place_of session))) s.world
    (with_session (more_waits p.visitor.session piece.now) p.visitor) p.moved p.left printed p.goes
answered_at k s _ t printed p = []

-- ---- in a whole record

-- all verdicts that sessions answered, in the order in which they did
abbrev pub answered_by : (k : Setup) (entries : List Entry) (s t : Scene) → IsRecord k entries s t → List Noted
answered_by k [] s t is = []
answered_by k (entry ∷ entries) s t is = answered_at k s entry.event entry.after (text_of k entry.piece) is.0.plays
    ++ answered_by k entries entry.after t is.1

-- No verdict is told to sessions twice, and what they are told to be stored is kept.
pub record AnswersOnce (k : Setup) (w : World) (answered : List Noted) : Type 0 where
  -- each is on a message of the session's own seat, as that seat has heard it
  pub at_own_seat : All (λ noted. (place : ℕ) × (noted.key.seat ≡ session_seat k place)) answered
  pub as_heard : All (λ noted. Contains (w.heard noted.key.seat) noted) answered
  -- those of each seat are on messages in the order in which they were appended, none twice
  pub in_order : AllPairs (λ a b. a.key.seat ≡ b.key.seat → Below a.key b.key) answered
  -- and each that says that the message is stored under a UID is on a copy that stands in its mailbox's history exactly once, under that UID
  pub stored : (uid : ℕ) (noted : Noted) → Contains answered noted → noted.verdict ≡ Stored uid
      → StandsOnce (pairs (w.box noted.mailbox).accepted) noted.key uid

-- of every record of a house
abbrev pub SessionsAnswerOnce : Type 0
SessionsAnswerOnce = (k : Setup) (entries : List Entry) (t : Scene) (steps : List WorldEvent) → IsWorld k.config steps t.world
    → (is : IsRecord k entries (empty_scene k) t)
    → AnswersOnce k t.world (answered_by k entries (empty_scene k) t is)
