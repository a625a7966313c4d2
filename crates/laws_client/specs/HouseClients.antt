-- The client of a session of a house on one thread: what it sent and was told, by the record of all that happened there, and what it is right about.
use Rattle.std.specs.Prelude.{◌≡◌, ℕ, List, ◌<◌, ◌≤◌, ◌^◌, ◌≢◌, [], Option, Some, None, Ok, ◌∷◌, ◌++◌, ◌+◌, ◌==◌, Contains, codes, length, true, false, flat_map, IfSome, if◌then◌else◌}
use Rattle.delivery_token.specs.Keys.{Below}
use Rattle.delivery_token.specs.declared.Job.{Job}
use Rattle.envelope.specs.Names.{Home, is_folder}
use Rattle.imap_grammar.specs.Reading.{read}
use Rattle.imap_grammar.specs.declared.command.Append.{Append}
use Rattle.imap_grammar.specs.declared.command.Command.TheVariants as commands
use Rattle.line_io.specs.Wire.{crlf, joined}
use Rattle.world.specs.Law.{StandsOnce, pairs}
use Rattle.world.specs.World.{Config, last_uid, Event, Enter, Read, Store, Expunge, Feed, Leave, IsWorld, Session, World, Step, empty_world}
use Rattle.imap_session.specs.Commands.{appended_words, greeting, number_named}
use Rattle.imap_session.specs.Exchange.{Call, Answer as StoreAnswer, Standing, Turn, begun_with}
use Rattle.imap_session.specs.Folders.{folders_of}
use Rattle.imap_session.specs.Happenings.{Happening, IsSentFor, IsTimely, Told, VerdictsArePrinted, bytes_in, leads_to, told_of}
use Rattle.imap_session.specs.Store.{Met}
use Rattle.house_peers.specs.Visitor.{SeatedVisitor}
use Rattle.house.specs.Meets.{Meets}
use Rattle.house.specs.Scene.{Scene, empty_scene, place_of}
use Rattle.house.specs.Setup.{Setup, admitted_in, session_seat}
use Rattle.house.specs.declared.event.Event as house
use Rattle.house.specs.declared.event.Event.TheVariants as happened
use Rattle.exactly_once.specs.Promise.{Entry, IsRecord, Lines, Piece}
use Rattle.laws_client.specs.Client.{Client}
use Rattle.laws_client.specs.Clients.{EndsWith, IsOk, IsSpelled, hears_all}
use Rattle.laws_client.specs.Flags.{CountsAll, IsRightAt, Point}

-- ---- what is settled at the start

-- UIDs are given from one on that there is, and the number that tells mailboxes of one name apart has 32 bits (RFC 9051, 2.3.1.1)
pub record HasSmallNumbers (k : Config) : Type 0 where
  pub first_uid : k.first_uid ≤ last_uid
  pub uidvalidity : k.uidvalidity < 2 ^ 32

-- the folders have names of letters, digits, _ and -
abbrev pub AreFolders : List Home → Type 0
AreFolders [] = Unit {0}
AreFolders (home ∷ homes) = IfSome home.folder (λ name. is_folder name ≡ true) × AreFolders homes

-- whatever a session prints of its mailboxes can be read
pub record IsPrintable (k : Setup) : Type 0 where
  pub numbers : HasSmallNumbers k.config
  pub names : AreFolders k.directory.homes
  pub texts : k.max_message < 2 ^ 31

-- ---- what a record has of it

-- by a record, of a place: whose session was let in there last and in which world, and what its client has sent and was shown since
pub record Seen : Type 0 where
  pub user : List ℕ
  pub began : World
  pub sent : List ℕ
  pub shown : List ℕ

-- what of that an event changes
abbrev pub seen_in : (place : ℕ) → Scene → house.Event → Seen → Seen
seen_in place s (happened.Enter session user) seen =
    if place_of session == place then record { user = user.now; began = s.world; sent = []; shown = [] } else seen
seen_in place s (happened.Say session bytes) seen = if place_of session == place then record seen { sent = seen.sent ++ bytes.now } else seen
seen_in place s event seen = seen

-- these of its bytes were printed, without their marks. Sessions are numbered from 1, their places from 0
abbrev pub shown_in : (place : ℕ) → Piece → List ℕ
shown_in place (Lines number lines) = if number == place + 1 then joined lines else []
shown_in place piece = []

-- and all entries of a record, from this scene on
abbrev pub seen_by_then : (place : ℕ) → Scene → List Entry → Seen → Seen
seen_by_then place s [] seen = seen
seen_by_then place s (entry ∷ entries) seen =
    let now = seen_in place s entry.event seen in
    seen_by_then place entry.after entries (record now { shown = now.shown ++ shown_in place entry.piece })

-- ---- its life

-- the event is none of session n's
abbrev pub IsOfOthers : ℕ → Event → Type 0
IsOfOthers n (Enter session mailbox) = n ≢ session
IsOfOthers n (Read session uid mark) = n ≢ session
IsOfOthers n (Store session uid op) = n ≢ session
IsOfOthers n (Expunge session may_go) = n ≢ session
IsOfOthers n (Feed session limit) = n ≢ session
IsOfOthers n (Leave session removing) = n ≢ session
IsOfOthers n event = Unit {0}

-- Session n stood so when it came into this world. Since then these bytes of its client were answered, and it was told all this, piece by piece; and
-- now it stands so in that world.
pub data Lives (k : Config) (n : ℕ) (first : Standing) (began : World) : List ℕ → List Told → Standing → World → Type 0 where
  comes : Lives k n first began [] [] first began
  turns : {sent : List ℕ} {told : List Told} {now : Standing} {w : World} → Lives k n first began sent told now w
      → (happening : Happening) (bytes : List ℕ) (turn : Turn) (v : World) → IsTimely now happening → IsSentFor happening bytes
      → VerdictsArePrinted happening → leads_to now happening ≡ Some turn
      → Met (λ (w : World) (call : Call) (answer : StoreAnswer) (v : World). Meets k n w call answer v) w turn.events v
      → Lives k n first began (sent ++ bytes) (told ++ told_of now happening turn.bytes ∷ []) turn.standing v
  others : {sent : List ℕ} {told : List Told} {now : Standing} {w : World} → Lives k n first began sent told now w
      → (event : Event) (v : World) → IsOfOthers n event → Step k w event v → Lives k n first began sent told now v

-- a session of this user that was just let in stands so
abbrev pub first_standing : Setup → (user : List ℕ) → Standing
first_standing k user = begun_with (admitted_in k user) (folders_of k.directory user)

-- ---- what it appended

-- A client sent a message so (RFC 9051, 6.3.12): this APPEND, under this tag; its text, as the literal that was announced; and the CRLF behind that.
pub record SendsMessage (sent tag : List ℕ) (append : Append) (text : List ℕ) : Type 0 where
  pub front : List ℕ
  pub bytes : List ℕ
  pub line : List ℕ
  pub behind : List ℕ
  pub spelled : IsSpelled bytes line
  pub reads : read line ≡ Ok (tag, commands.Append append)
  pub size : length text ≡ append.literal.size
  pub whole : sent ≡ front ++ (bytes ++ crlf) ++ text ++ crlf ++ behind

module _ (k : Setup) (place : ℕ) (w : World) (seen : Seen) where
  -- These words tell a client the UID of a message that it sent under this tag (RFC 4315, 3). It stands under that in the mailbox that was named,
  -- once, with the text, the date and the flags that were sent, as a copy of the session with this serial.
  pub record TellsOfMessage (serial : ℕ) (tag words : List ℕ) : Type 0 where
    pub append : Append
    pub copy : Job
    pub sends : SendsMessage seen.sent tag append copy.text.bytes
    pub named : number_named append.name (folders_of k.directory seen.user) ≡ Some copy.mailbox
    pub as_sent : (copy.text.date ≡ append.date) × (copy.flags ≡ append.flags)
    pub own : (copy.key.seat ≡ session_seat k place) × (copy.key.serial ≡ serial)
    pub uid : ℕ
    pub told : words ≡ appended_words k.config.uidvalidity uid
    pub stands : Contains (w.box copy.mailbox).accepted (copy, uid)
    pub once : StandsOnce (pairs (w.box copy.mailbox).accepted) copy.key uid

-- ---- what it is right about

-- where a session is in the mailbox that it has selected; nowhere in an empty one, where it has selected none
abbrev pub point_in : World → Option Session → Point
point_in w None = record { log = []; cursor = 0 }
point_in w (Some s) = record { log = (w.box s.mailbox).log; cursor = s.cursor }

abbrev pub point_of : World → ℕ → Point
point_of w n = point_in w (w.session n)

module _ (k : Setup) (place : ℕ) where
  -- Of a session that is there, of which the record has this: what its client sent was answered, turn by turn, whatever others did meanwhile. Of the
  -- greeting and these answers it makes a list. That is what the session counts, and the flags in it were so at a moment not before its cursor.
  pub record IsToldRight (v : SeatedVisitor) (w : World) (seen : Seen) : Type 0 where
    pub answered : List ℕ
    pub told : List Told
    pub lives : Lives k.config place (first_standing k seen.user) seen.began answered told v.session.standing w
    -- this is all that it sent, but what waits, and all that was printed to it, but what is still to be printed
    pub sent : seen.sent ≡ answered ++ v.session.waits
    pub shown : seen.shown ++ v.session.unsaid ≡ greeting (first_standing k seen.user).profile ++ flat_map bytes_in told
    pub list : IsRightAt (point_of w place) (hears_all None told)
    -- what ends in `OK [APPENDUID ` tells of a message that it appended
    pub messages : (before after : List Told) (one : Told) (tag rest : List ℕ) → told ≡ before ++ one ∷ after
        → EndsWith tag (codes "OK [APPENDUID " ++ rest) (bytes_in one) → TellsOfMessage k place w seen v.serial tag (codes "OK [APPENDUID " ++ rest)
    -- and two of these of two messages, of which the first was appended first
    pub in_turn : (before mid after : List Told) (one two : Told) (a x b y : List ℕ) → told ≡ before ++ one ∷ (mid ++ two ∷ after)
        → EndsWith a (codes "OK [APPENDUID " ++ x) (bytes_in one) → EndsWith b (codes "OK [APPENDUID " ++ y) (bytes_in two)
        → (first : TellsOfMessage k place w seen v.serial a (codes "OK [APPENDUID " ++ x))
        × (second : TellsOfMessage k place w seen v.serial b (codes "OK [APPENDUID " ++ y)) × Below first.copy.key second.copy.key

-- nobody was let in yet
abbrev pub unseen : Seen
unseen = record { user = []; began = empty_world; sent = []; shown = [] }

-- So it is over whatever record of a house that was new.
abbrev pub ClientsAreRight : Type 0
ClientsAreRight = (k : Setup) (entries : List Entry) (t : Scene) (place : ℕ) (v : SeatedVisitor) → IsPrintable k
    → IsRecord k entries (empty_scene k) t → t.visitor place ≡ Some v → v.gone ≡ false
    → IsToldRight k place v t.world (seen_by_then place (empty_scene k) entries unseen)

-- Where a client knows that it is in a mailbox, and its session says the OK of a NOOP or DONE, the session counts all that is in the mailbox then.
abbrev pub OksCountAll : Type 0
OksCountAll = (k : Setup) (place : ℕ) (user : List ℕ) (events : List Event) (began : World) (sent : List ℕ) (told : List Told) (now : Standing)
    (w : World) (client : Client) (happening : Happening) (turn : Turn) (v : World) → IsPrintable k → IsWorld k.config events began
    → Lives k.config place (first_standing k user) began sent told now w → hears_all None told ≡ Some client → leads_to now happening ≡ Some turn
    → Met (λ (w : World) (call : Call) (answer : StoreAnswer) (v : World). Meets k.config place w call answer v) w turn.events v
    → IsOk (told_of now happening turn.bytes) → CountsAll (point_of v place)

-- A UID never names another message: the copy under it in a mailbox's history stands there at each later moment, and no other does.
abbrev pub UidsNameOneCopy : Type 0
UidsNameOneCopy = (k : Setup) (before later : List Entry) (s t : Scene) (mailbox uid : ℕ) (copy : Job)
    → IsRecord k before (empty_scene k) s → IsRecord k later s t → Contains (s.world.box mailbox).accepted (copy, uid)
    → Contains (t.world.box mailbox).accepted (copy, uid) × ((other : Job) → Contains (t.world.box mailbox).accepted (other, uid) → other ≡ copy)
