-- One client's visit over a stream: what its callers may know of it, what each call does, and what is sent; and the life of its session.
use Rattle.std.specs.Prelude.{◌≡◌, ℕ, ◌<◌, ◌||◌, Bool, true, false, List, [], codes, length, take, Option, if◌then◌else◌, ◌≢◌, ◌⊎◌, ◌+◌, ◌++◌, flat_map}
use Rattle.std.specs.Io.KnownBytes.{Appends, Consumes}
use Rattle.imap_session.specs.declared.standing.After.{After}
use Rattle.imap_session.specs.declared.standing.After.TheVariants.{Bye, Submit}
use Rattle.imap_session.specs.Exchange.{Admission, Folder, begun_with, bye, is_idling, may_send, Answer, Call, Standing}
use Rattle.imap_session.specs.Happenings.{kept_tag, answer_room, tag_len, Lived, Told, bytes_in}
use Rattle.imap_session.specs.Commands.{greeting}
use Rattle.imap_session.specs.Dialogue.{Dialogue, ImapConnection, StandsFor, may_follow}
use Rattle.session_thread.specs.Locks.{LockedStore}
use Rattle.session_thread.specs.Life.{HasShown, IsShortInTurn, Moment, Says, SaysInPart, moment}
use Rattle.workers_sync.specs.Carried.{Carried}
use Rattle.workers_sync.specs.declared.courier.Lost.{Lost}
use Rattle.house_history.specs.Legal.{Legal}
use Rattle.imap_session.specs.declared.standing.Profile.{Profile}
use Rattle.session_thread.specs.ByHistory.{ByHistory}
use Rattle.imap_stream.specs.declared.client_slot.Parting.{Parting}
use Rattle.imap_stream.specs.declared.client_slot.Parting.TheVariants.{Over, Stopped}
use Rattle.workers_sync.specs.declared.courier.Lost.TheVariants as lost

-- What is known of a visit. Between two calls nothing that was said is left unsent.
pub record Visit : Type 0 where
  pub link : ImapConnection
  pub selection : LockedStore
  -- the bytes that its output took, where that tells them
  pub taken : Option (List ℕ)
  -- the output failed
  pub failed : Bool
  -- nothing more is said or sent: the output failed, bytes of the client were lost, it was dismissed, or its session left
  pub closed : Bool
  -- for how many bytes there is room where what is said is written before it is sent
  pub room : ℕ

-- Nothing more is done for the client.
abbrev pub is_over : Visit → Bool
is_over visit = visit.closed || visit.link.session.ended

-- what the client may send next
abbrev pub awaited : Visit → After
awaited visit = if visit.closed then Bye else may_send visit.link.session

-- Bytes of the client are taken: the visit isn't over, and its session awaits no verdict on a message.
abbrev pub takes_bytes : Visit → Bool
takes_bytes visit = may_follow (awaited visit)

-- ---- turns

-- The session had turns, one after another, and each of them showed something.
pub data GoesOnShowing (first : Moment) : Moment → Type 0 where
  nothing_yet : GoesOnShowing first first
  another : (count : ℕ) (now next : Moment) → GoesOnShowing first now → 0 < count → HasShown count now next → GoesOnShowing first next

-- The client was shown what there is: the session had turns until it doesn't idle, or until one showed nothing.
pub data ShowsAll (first last : Moment) : Type 0 where
  awake : GoesOnShowing first last → is_idling last.dialogue.standing ≡ false → ShowsAll first last
  nothing_left : (now : Moment) → GoesOnShowing first now → HasShown 0 now last → ShowsAll first last

-- The session had turns, and memory was refused for the next, out of `room` bytes or by its mailbox.
pub record ShowsInPart (room : ℕ) (first last : Moment) : Type 0 where
  pub showed : GoesOnShowing first last
  pub idles : is_idling last.dialogue.standing ≡ true
  pub short : IsShortInTurn room last

-- ---- a piece of the client's bytes

-- The bytes were taken, to their end or to the line that ended the session, each line that ended in them was answered, and so was the verdict on each
-- message that was submitted in them, which was carried. Where the session idled then, the client was shown what there is.
pub record Hears (piece : List ℕ) (carried : List Carried) (before after : Moment) : Type 0 where
  pub between : Moment
  pub says : Says piece carried before between
  pub shows : ShowsAll between after

module _ (room : ℕ) (piece : List ℕ) where
  -- So it went until the session stopped, within the bytes, or until memory was refused within the turns behind them.
  pub data HearsInPart (why : Lost) (before after : Moment) : Type 0 where
    within_bytes : SaysInPart room piece why before after → HearsInPart why before after
    within_turns : (between : Moment) (carried : List Carried) → Says piece carried before between → ShowsInPart room between after
        → why ≡ lost.NoMemory
        → HearsInPart why before after

-- ---- what is sent

-- Each dialogue for which the connection stood was led by P to one for which it stands, and this was said on the way.
abbrev pub LeadsTo : (Moment → Moment → Type 0) → Visit → List ℕ → Visit → Type 0
LeadsTo P old said new = (d : Dialogue) → StandsFor old.link d → (next : Dialogue) × StandsFor new.link next
    × P (moment d old.selection []) (moment next new.selection said)

-- All that was said was sent.
pub record SendsAll (old : Visit) (said : List ℕ) (new : Visit) : Type 0 where
  pub took : Appends old.taken new.taken said
  pub live : new.failed ≡ false

-- The output failed. It took exactly the first bytes of what was said, fewer than all, and nothing more is sent.
pub record SendsFirst (old : Visit) (said : List ℕ) (new : Visit) : Type 0 where
  pub sent : ℕ
  pub few : sent < length said
  pub took : Appends old.taken new.taken (take sent said)
  pub failed : new.failed ≡ true
  pub over : new.closed ≡ true

-- P was done, and what was said was sent: all of it where Sends is `SendsAll`.
pub record Tells (P : Moment → Moment → Type 0) (Sends : Visit → List ℕ → Visit → Type 0) (old new : Visit) : Type 0 where
  pub said : List ℕ
  pub leads : LeadsTo P old said new
  pub sends : Sends old said new

-- ---- the first and the last words

module _ (admission : Admission) (folders : List Folder) where
  -- The client was greeted (RFC 9051, 7.1.1 and 7.1.4), and nothing else was done: its session has begun so, and its line hasn't.
  pub record IsGreeted (selection : LockedStore) (taken : Option (List ℕ)) (visit : Visit) : Type 0 where
    pub stands : StandsFor visit.link (record { standing = begun_with admission folders; begun = [] })
    pub store : visit.selection ≡ selection
    pub took : Appends taken visit.taken (greeting admission.profile)
    pub live : visit.failed ≡ false
    pub goes_on : visit.closed ≡ false

-- what a client is told that is dismissed (RFC 9051, 7.1.5)
abbrev pub farewell : List ℕ
farewell = bye (codes "Shutting down")

-- ---- a visit as a life of its session

-- How a visit began: where its session stood, what its store had seen, and what its output had taken before.
pub record Beginning : Type 0 where
  pub first : Standing
  pub store : LockedStore
  pub taken : Option (List ℕ)

-- all that was said: the greeting of its profile, and what the client was told since
abbrev pub said_in : Profile → List Told → List ℕ
said_in profile told = greeting profile ++ flat_map bytes_in told

-- Why a session stopped within what it heard: it was short of room where it stands, no verdict came on the message that it had submitted, or it idles
-- and memory was refused for a turn.
abbrev pub IsCutShort : ℕ → Standing → Type 0
IsCutShort room now = (room < answer_room + tag_len (kept_tag now)) ⊎ ((may_send now ≡ Submit) ⊎ (is_idling now ≡ true))

-- by what a call of its store is said to do
module _ (step : LockedStore → Call → Answer → LockedStore → Type 0) where
  -- The visit has come to this since its client was greeted, when it has heard all these bytes and was told all this.
  pub record HasLived (beginning : Beginning) (heard : List ℕ) (told : List Told) (visit : Visit) : Type 0 where
    pub dialogue : Dialogue
    pub stands : StandsFor visit.link dialogue
    -- These bytes were answered, and with those behind them a line has begun. The others were lost:
    -- they came behind the end of the session, or the visit ended before they were answered.
    pub answered : List ℕ
    pub lost : List ℕ
    pub all : heard ≡ (answered ++ dialogue.begun) ++ lost
    pub none_lost : is_over visit ≡ false → lost ≡ []
    pub lives : Lived step beginning.first beginning.store answered told dialogue.standing visit.selection
    pub legal : Legal visit.selection.history
    -- The output took all that was said, or the first bytes of it where it failed: then the visit is over.
    pub sent : ℕ
    pub took : Appends beginning.taken visit.taken (take sent (said_in beginning.first.profile told))
    pub took_all : visit.failed ≡ false → Appends beginning.taken visit.taken (said_in beginning.first.profile told)
    pub failed : visit.closed ≡ false → visit.failed ≡ false
    -- Where it is closed that has a reason.
    pub why : visit.closed ≡ true → (visit.failed ≡ true) ⊎ IsCutShort visit.room dialogue.standing

-- The client was told nothing more.
pub record IsQuiet (last visit : Visit) : Type 0 where
  pub taken : visit.taken ≡ last.taken
  pub failed : visit.failed ≡ last.failed
  pub room : visit.room ≡ last.room

-- How a visit ended behind its last moment: it is over. Its client was told nothing more. Or where the house stopped, and the visit wasn't over, it
-- was told that, or the first bytes of that where the output failed.
pub record EndsSo (how : Parting) (last visit : Visit) : Type 0 where
  pub closed : visit.closed ≡ true
  pub link : visit.link ≡ last.link
  pub quiet : (how ≢ Stopped) ⊎ (is_over last ≡ true) → IsQuiet last visit
  pub takes_none : how ≡ Over → may_follow (if last.closed then Bye else may_send last.link.session) ≡ false
  pub told : how ≡ Stopped → is_over last ≡ false
      → (Appends last.taken visit.taken farewell × (visit.failed ≡ false)) ⊎ SendsFirst last farewell visit

module _ (before after : Option (List ℕ)) where
  -- A client was attended, whose input had the one before and has the other now. What came was heard, all of it and in order, but for what was
  -- read as the house stopped. That is a life, by the one history, and it ended so.
  pub record HasAttended (how : Parting) (beginning : Beginning) (visit : Visit) : Type 0 where
    pub heard : List ℕ
    pub dropped : List ℕ
    pub came : Consumes before after (heard ++ dropped)
    pub kept : how ≢ Stopped → dropped ≡ []
    pub told : List Told
    pub last : Visit
    pub lived : HasLived ByHistory beginning heard told last
    pub ends : EndsSo how last visit
