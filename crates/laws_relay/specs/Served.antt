-- What a relay may conclude of the mail connections of a server, by the bytes that it sent and was told there.
use Rattle.std.specs.Prelude.{◌≡◌, ◌<◌, ◌≤◌, ◌==◌, ℕ, Bool, false, List, [], ◌++◌, All, AllPairs, Contains, Some, length, slice_get, slice_index_or, if◌then◌else◌}
use Rattle.delivery_token.specs.Keys.{Below}
use Rattle.delivery_token.specs.declared.Job.{Job}
use Rattle.delivery_token.specs.declared.Verdict.{Verdict}
use Rattle.delivery_token.specs.declared.Verdict.TheVariants.{Stored}
use Rattle.house_history.specs.declared.event.Event.{Event}
use Rattle.house_history.specs.Events.{accepted_in, keys_of_seat}
use Rattle.house_history.specs.Legal.{StandsAlone, Legal, Stands, WasJudged}
use Rattle.lane_work.specs.Account.{Premises, closings_of, setting_at, told}
use Rattle.lane_work.specs.Backing.{HaveStood, StandAsTold}
use Rattle.lane_work.specs.Talk.{HasTaken, Judged}
use Rattle.lmtp_machine.specs.declared.reply.Reply.{Reply}
use mathlib.Core.List.{IsPrefix}
use Rattle.lmtp_machine.specs.Conversation.{Conversation}
use Rattle.lmtp_machine.specs.Dialogue.{Phase, Start, wire}
use Rattle.settings.specs.declared.config.Config.{Config}
use Rattle.serving_workers.specs.Finished.{Finished}
use Rattle.serving_workers.specs.Leaving.{AreWritten, HaveConversed, next, none, passed, Spoken}
use Rattle.serving.specs.Kept.{HasKept}
use Rattle.laws_relay.specs.Concludes.{Concludes, of_history}
use Rattle.laws_relay.specs.Handed.{IsInLine, handed_over}

-- ---- a connection, at any moment between two messages

-- Of this connection just those copies stand of which Stored is told here: the very copies, in their
-- mailboxes, under these UIDs; and each verdict that there is on one of its copies is told.
pub record ConnectionStands (seat serial : ℕ) (history : List Event) (told : List (Job × Verdict)) : Type 0 where
  pub stood : HaveStood history told
  pub all : (copy : Job) (verdict : Verdict) → copy.key.seat ≡ seat → copy.key.serial ≡ serial → WasJudged history copy verdict
      → Contains told (copy, verdict)

-- A connection of a worker that closes no shard has taken these bytes and said these replies, and of its copies just those stand of which Stored was
-- told. A relay that sent these bytes, and perhaps more behind them, was told any front of the replies: it may conclude.
abbrev pub ServedRelaysConclude : Type 0
ServedRelaysConclude =
    (house : Premises) (seat serial : ℕ) (bytes : List ℕ) (said : List Reply) (judged : List Judged) (at : Conversation) (history : List Event)
    → IsInLine house.host → closings_of house seat ≡ []
    → HasTaken (setting_at house seat serial) house.directory bytes said judged at
    → Legal history → ConnectionStands seat serial history (told judged)
    → (more front untold : List ℕ) → front ++ untold ≡ wire house.host said
    → Concludes house.directory (of_history history) seat serial (handed_over (bytes ++ more) front)
    (handed_over (bytes ++ more) (wire house.host said))

-- ---- all connections of a worker

-- the bytes that came on the connection with this serial number, and the replies that were said; none where nothing was said
abbrev pub talk_on : {house : Premises} {seat connections : ℕ} {spoken : List Spoken} {judged : List Judged}
    → HaveConversed house seat connections spoken judged → ℕ → List ℕ × List Reply
talk_on none serial = ([], [])
talk_on (passed {n} before) serial = if serial == n then ([], []) else talk_on before serial
talk_on (next {n} bytes replies _ _ _ _ _ before _ _) serial = if serial == n then (bytes, replies) else talk_on before serial

pub record WorkerConcludes (house : Premises) (seat : ℕ) (history : List Event) {connections : ℕ} {spoken : List Spoken} {judged : List Judged}
    (conversed : HaveConversed house seat connections spoken judged) : Type 0 where
  -- Of each connection: a relay that sent what came there, and perhaps more behind it, was told any front of the replies.
  pub each : (serial : ℕ) → serial < connections → (more front untold : List ℕ) → front ++ untold ≡ wire house.host (talk_on conversed serial).1
      → Concludes house.directory (of_history history) seat serial (handed_over ((talk_on conversed serial).0 ++ more) front)
      (handed_over ((talk_on conversed serial).0 ++ more) (wire house.host (talk_on conversed serial).1))
  -- whatever stands of this worker is of one of these connections
  pub nothing_else : (copy : Job) (uid : ℕ) → Stands history copy uid → copy.key.seat ≡ seat → copy.key.serial < connections

-- Of a worker of whose seat just those copies stand of which its conversations told Stored.
abbrev pub WorkersConclude : Type 0
WorkersConclude = (house : Premises) (seat connections : ℕ) (spoken : List Spoken) (judged : List Judged) (history : List Event)
    → IsInLine house.host → Legal history
    → (conversed : HaveConversed house seat connections spoken judged) → StandAsTold seat history (told judged)
    → WorkerConcludes house seat history conversed

-- So it is of each worker of a server that stopped in order, whose name can stand in a line.
abbrev pub ServersConclude : Type 0
ServersConclude = (config : Config) (finished : Finished) (kept : HasKept config finished) → IsInLine kept.house.host
    → (n : ℕ) (worker : n < config.workers) → WorkerConcludes kept.house n finished.front (kept.mail n worker).conversed

-- ---- what clients append

-- Of a client slot, whose clients appended these messages, of which these verdicts were told: just those stand of which Stored was told. They are the
-- very messages, in the mailboxes that were named, with their texts and flags, each once, under the UID that was told, and in no other mailbox; and
-- in each mailbox they stand in the order in which they were appended.
pub record ClientSlotConcludes (seat : ℕ) (history : List Event) (copies : List (Job × Verdict)) : Type 0 where
  pub stand : StandAsTold seat history copies
  pub once : All (λ (one : Job × Verdict). (uid : ℕ) → one.1 ≡ Stored uid → StandsAlone history one.0 uid) copies
  pub in_order : (mailbox : ℕ) → AllPairs Below (keys_of_seat seat (accepted_in mailbox history))

-- So it is of each client slot of a server that stopped in order, and of the very messages of which the server
-- says that its clients appended them there (`KeptAppends`).
abbrev pub ClientSlotsConclude : Type 0
ClientSlotsConclude = (config : Config) (finished : Finished) (kept : HasKept config finished)
    → (n : ℕ) (client_slot : config.workers ≤ n) (under : n < length finished.channels.items)
    → ClientSlotConcludes n finished.front (kept.clients n client_slot under).copies

-- ---- a line that tells what came and what was said

-- These replies are what was said to these bytes in a conversation on the connection with
-- this seat and serial, which stands in this phase then; or nothing was said there.
pub data AreReplies (house : Premises) (seat serial : ℕ) : (bytes : List ℕ) → List Reply → Phase → Type 0 where
  nothing_said : AreReplies house seat serial [] [] Start
  replied : {bytes : List ℕ} {replies : List Reply} (judged : List Judged) (at : Conversation)
      → HasTaken (setting_at house seat serial) house.directory bytes replies judged at → AreReplies house seat serial bytes replies at.standing.phase

module _ (house : Premises) (seat serial : ℕ) (history : List Event) where
  -- The connection with this serial, whose peer sends this, and to which that was written, whose output failed or didn't: what was written is the
  -- replies to the bytes that were taken of it, and perhaps at last that the server shuts down; where the output failed, a beginning; and nothing
  -- where nothing was said. By any beginning of the replies that it has read the peer may conclude.
  pub record ConnectionConcludes (came said : List ℕ) (failed : Bool) : Type 0 where
    pub taken : List ℕ
    pub replies : List Reply
    pub phase : Phase
    pub read : IsPrefix taken came
    pub are : AreReplies house seat serial taken replies phase
    pub written : AreWritten house.host taken replies phase said failed
    pub silent : replies ≡ [] → (said ≡ []) × (failed ≡ false)
    pub concludes : (front untold : List ℕ) → front ++ untold ≡ wire house.host replies
        → Concludes house.directory (of_history history) seat serial (handed_over came front) (handed_over came (wire house.host replies))

module _ (house : Premises) (seat : ℕ) (history : List Event) where
  -- Of each connection that came in at this line of a worker, by what the line tells of it; and whatever stands of this worker is of one of them.
  pub record LineConcludes (came : List (List ℕ)) (said : List (List ℕ × Bool)) : Type 0 where
    pub as_many : length came ≡ length said
    pub each : (serial : ℕ) → serial < length said
        → ConnectionConcludes house seat serial history (slice_index_or came serial []) (slice_index_or said serial ([], false)).0
        (slice_index_or said serial ([], false)).1
    pub nothing_else : (copy : Job) (uid : ℕ) → Stands history copy uid → copy.key.seat ≡ seat → copy.key.serial < length said

-- So it is of the line of each worker of a server that stopped in order, where the line tells what came and what was said.
abbrev pub LinesConclude : Type 0
LinesConclude = (config : Config) (finished : Finished) (kept : HasKept config finished) → IsInLine kept.house.host
    → (n : ℕ) → n < config.workers → (came : List (List ℕ)) (said : List (List ℕ × Bool))
    → slice_get finished.lines n ≡ Some (Some (record { came = Some came; said = Some said }))
    → LineConcludes kept.house n finished.front came said
