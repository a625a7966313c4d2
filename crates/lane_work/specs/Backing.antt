-- What the house's history has of what a producer put and heard.
use Rattle.std.specs.Prelude.{◌≡◌, ◌⊎◌, ℕ, ◌<◌, List, [], All, Contains, length, map, slice_index_or}
use Rattle.delivery_token.specs.declared.Job.{Job}
use Rattle.delivery_token.specs.declared.Verdict.{Verdict}
use Rattle.delivery_token.specs.declared.Verdict.TheVariants.{Stored}
use Rattle.delivery_token.specs.declared.log.Noted.{Noted}
use Rattle.envelope.specs.Names.{Directory}
use Rattle.house_history.specs.declared.event.Event.{Event}
use Rattle.house_history.specs.Events.{sent_by}
use Rattle.house_history.specs.Legal.{Legal, WasJudged, WasWithdrawn}
use Rattle.house_history.specs.Views.{IsSettledIn}
use Rattle.shard_queue.specs.declared.lane.Entry.{Entry}
use Rattle.shard_queue.specs.declared.lane.Entry.TheVariants.{Item, End}
use Rattle.shard_queue.specs.Reply.{received}
use Rattle.lane_work.specs.declared.desk.Desk.{Desk}
use Rattle.lane_work.specs.Account.{AreBooksOf, HaveEnded, Room}
use Rattle.lane_work.specs.Dispatching.{Dispatch}
use Rattle.lane_work.specs.Permits.{put_by}

-- what was put is a copy that its seat has sent, or an end
abbrev pub WasSent : List Event → Entry Job → Type 0
WasSent history (Item seat job) = (ticket : ℕ) × Contains (sent_by job.key.seat history) (job, ticket)
WasSent history (End seat) = Unit {0}

-- what was heard of a copy is the last word on it in the history, too
abbrev pub IsShown : List Event → Entry Noted → Type 0
IsShown history (Item shard noted) = IsSettledIn history noted
IsShown history (End shard) = Unit {0}

-- this copy was put on one of the lanes
abbrev pub WasPut : List (List (Entry Job)) → Job → Type 0
WasPut put job = (lane : ℕ) × (seat : ℕ) × Contains (slice_index_or put lane []) (Item seat job)

-- The history is legal; each copy that was put on a lane was sent, and what was heard is the last word there. And nothing else is there of this seat:
-- each copy that it has sent was put, or withdrawn.
pub record IsBacked (seat : ℕ) (history : List Event) (heard : List (Entry Noted)) (put : List (List (Entry Job))) : Type 0 where
  pub legal : Legal history
  pub sent : All (λ entries. All (WasSent history) entries) put
  pub shown : All (IsShown history) heard
  pub only : All (λ (one : Job × ℕ). WasPut put one.0 ⊎ WasWithdrawn history one.0) (sent_by seat history)

-- the same by what this seat's copies are sent with
abbrev pub IsBackedBy : ℕ → Dispatch → (heard : List (Entry Noted)) → (put : List (List (Entry Job))) → Type 0
IsBackedBy seat dispatch heard put = (dispatch.number ≡ seat) × IsBacked seat dispatch.history heard put

-- the same of a desk
abbrev pub IsBackedDesk : {B : Type 0} → ℕ → Desk B → Type 0
IsBackedDesk seat desk = IsBackedBy seat desk.dispatch (received desk.receiver) (map put_by desk.permits.items)

-- what the history had of the desk it has still, and of what was put and heard since too
abbrev pub KeepsBacked : {B : Type 0} → Desk B → Desk B → Type 0
KeepsBacked old new = (seat : ℕ) → IsBackedDesk seat old → IsBackedDesk seat new

-- Each of these copies of which Stored was told stands: the history has that very copy, with its mailbox and its text, as stored under that UID.
abbrev pub HaveStood : List Event → List (Job × Verdict) → Type 0
HaveStood history told = All (λ (one : Job × Verdict). (uid : ℕ) → one.1 ≡ Stored uid → WasJudged history one.0 (Stored uid)) told

-- each verdict that the history has on a copy of this seat is told among these
abbrev pub AreAllOf : ℕ → List Event → List (Job × Verdict) → Type 0
AreAllOf seat history told = (job : Job) (verdict : Verdict) → job.key.seat ≡ seat → WasJudged history job verdict → Contains told (job, verdict)

-- Of this seat just those copies stand of which Stored is told here: the very copies, in their mailboxes, under these UIDs, and nothing else.
pub record StandAsTold (seat : ℕ) (history : List Event) (told : List (Job × Verdict)) : Type 0 where
  pub stood : HaveStood history told
  pub all : AreAllOf seat history told

-- Where the books of a producer tell of these copies, whoever keeps them, and the history has what it put and heard: of its seat just those stand of
-- which they tell Stored.
abbrev pub BooksStand : Type 0
BooksStand = (directory : Directory) (rooms : List Room) (seat : ℕ) (copies : List (Job × Verdict)) (history : List Event)
    (heard : List (Entry Noted)) (put : List (List (Entry Job)))
    → 0 < directory.shards → directory.shards ≡ length put → AreBooksOf directory rooms seat copies (λ told. Unit {0}) heard put
    → IsBacked seat history heard put → StandAsTold seat history copies

-- The same where the producer has ended, of its words on each lane.
abbrev pub WordsStand : Type 0
WordsStand = (directory : Directory) (rooms : List Room) (seat : ℕ) (copies : List (Job × Verdict)) (history : List Event)
    (heard : List (Entry Noted)) (put words : List (List (Entry Job)))
    → 0 < directory.shards → directory.shards ≡ length put → AreBooksOf directory rooms seat copies (λ told. Unit {0}) heard put
    → HaveEnded seat put words → IsBacked seat history heard words → StandAsTold seat history copies
