-- What one worker's thread says: of its own permits, its own log and its own replies; and the copies of the messages that were judged.
use Rattle.std.specs.Prelude.{◌≡◌, ℕ, Bool, ◌<◌, ◌==◌, ◌&&◌, ◌||◌, nat_le, List, [], ◌∷◌, ◌++◌, length, map, slice_index_or, ◌≤◌, ◌⊎◌, zip, flat_map}
use Rattle.std.specs.List.{list_any}
use Rattle.delivery_token.specs.declared.Job.{Job}
use Rattle.delivery_token.specs.declared.Verdict.{Verdict}
use Rattle.delivery_token.specs.declared.log.Noted.{Noted}
use Rattle.envelope.specs.Names.{Directory, is_shut, marked, shard_of}
use Rattle.lmtp_machine.specs.declared.reply.Reply.{Reply}
use Rattle.lmtp_machine.specs.Dialogue.{Setting, wire, Submission}
use Rattle.shard_queue.specs.declared.lane.Entry.{Entry}
use Rattle.shard_queue.specs.declared.lane.Entry.TheVariants.{Item, End}
use Rattle.lane_work.specs.declared.desk.Closing.{Closing}
use Rattle.lane_work.specs.Talk.{Judged, WholeTalk}
use Rattle.change_ring.specs.Log.{no_flags}
use Rattle.delivery_token.specs.declared.CopyKey.{CopyKey}
use Rattle.delivery_token.specs.Text.{Text}
use Rattle.delivery_token.specs.declared.Verdict.TheVariants.{Refused}
use Rattle.delivery_token.specs.declared.Refusal.TheVariants.{Full, NoMemory}
use Rattle.shard_queue.specs.Permits.{ShardQueue, capacity_of, producers_of}

-- ---- the copies of messages that were judged

-- how many producers a lane has, and how many entries have room there
pub record Room : Type 0 where
  pub producers : ℕ
  pub capacity : ℕ

abbrev pub room_of : ShardQueue Job → Room
room_of lane = record { producers = producers_of lane; capacity = capacity_of lane }

abbrev pub rooms_of : List (ShardQueue Job) → List Room
rooms_of lanes = map room_of lanes

-- that of the lane at this position
abbrev pub room_at : List Room → ℕ → Room
room_at rooms lane = slice_index_or rooms lane (record { producers = 0; capacity = 0 })

-- What Full says to a producer that had put just these entries on the lane: where it is the lane's only one, they are at least as many as have room
-- there. Of a lane that has others no producer knows how much of it these had filled. What a run's lists say of it, its report compares (`refusals`).
abbrev pub FilledAlone : Room → ℕ → List (Entry Job) → Type 0
FilledAlone room seat sent = room.producers ≡ 1 → seat ≡ 0 → room.capacity ≤ length sent

-- the copies of a message, in the order of its recipients
abbrev pub copies : List CopyKey → List ℕ → Text → List Job
copies [] mailboxes text = []
copies (key ∷ keys) [] text = []
copies (key ∷ keys) (mailbox ∷ mailboxes) text = record { key = key; mailbox = mailbox; text = text; flags = no_flags } ∷ copies keys mailboxes text

abbrev pub copies_of : Submission → List Job
copies_of m = copies m.keys m.mailboxes m.text

-- each copy of these messages with its verdict, in the order of the messages and of their recipients
abbrev pub told : List Judged → List (Job × Verdict)
told judged = flat_map (λ j. zip (copies_of j.message) j.verdicts) judged

-- what a log notes of a copy
abbrev pub note_of : Job × Verdict → Noted
note_of t = record { key = t.0.key; mailbox = t.0.mailbox; verdict = t.1 }

-- A verdict that is known without the consumer: there was no room, which is what `full` says, or the text couldn't be shared.
abbrev pub IsAtOnce : Type 0 → Verdict → Type 0
IsAtOnce full verdict = ((verdict ≡ Refused Full) × full) ⊎ (verdict ≡ Refused NoMemory)

-- among the entries that were heard there is this note
abbrev pub IsHeard : List (Entry Noted) → Noted → Type 0
IsHeard heard noted = (shard : ℕ) × (before : List (Entry Noted)) × (after : List (Entry Noted)) × (heard ≡ before ++ Item shard noted ∷ after)

module _ (directory : Directory) (room : Room) (seat lane : ℕ) (heard : List (Entry Noted)) where
  -- Of these copies, in their order, these were put on this lane, behind those that had been put before: all that are for its mailboxes, but for some
  -- that were refused at once. Where it was for want of room, this producer had put just those before it (what that says of a lane that is its alone:
  -- `FilledAlone`). The verdict on each that was put was heard.
  pub data WerePut : (before : List Job) → List (Job × Verdict) → List Job → Type 0 where
    none : {before : List Job} → WerePut before [] []
    put : {before jobs : List Job} {told : List (Job × Verdict)} (copy : Job) (verdict : Verdict)
        → shard_of directory copy.mailbox ≡ lane → IsHeard heard (note_of (copy, verdict))
        → WerePut (before ++ copy ∷ []) told jobs
        → WerePut before ((copy, verdict) ∷ told) (copy ∷ jobs)
    elsewhere : {before jobs : List Job} {told : List (Job × Verdict)} (copy : Job) (verdict : Verdict)
        → (shard_of directory copy.mailbox ≡ lane → ⊥)
        → WerePut before told jobs → WerePut before ((copy, verdict) ∷ told) jobs
    refused : {before jobs : List Job} {told : List (Job × Verdict)} (copy : Job) (verdict : Verdict)
        → shard_of directory copy.mailbox ≡ lane → IsAtOnce (FilledAlone room seat (map (λ job. Item seat job) before)) verdict
        → WerePut before told jobs → WerePut before ((copy, verdict) ∷ told) jobs

-- ---- what a worker's thread says

-- What every connection of the house is told of it, how much room its lanes have, and which shards each worker closes.
pub record Premises : Type 0 where
  pub directory : Directory
  pub rooms : List Room
  pub host : List ℕ
  pub max_message : ℕ
  pub closings : List (List Closing)

-- the shard is closed before this connection, or was before an earlier one
abbrev pub is_closed_by : ℕ → ℕ → Closing → Bool
is_closed_by connection shard closing = nat_le closing.connection connection && (closing.shard == shard)

-- This is the house's directory as a worker with these closings has it on a connection: with the marks of the shards that it has closed by then.
pub record IsMarkedBy (closings : List Closing) (connection : ℕ) (house own : Directory) : Type 0 where
  pub same : own ≡ marked own.shut house
  pub marks : (shard : ℕ) → shard < house.shards → is_shut own shard ≡ (is_shut house shard || list_any (is_closed_by connection shard) closings)

abbrev pub closings_of : Premises → ℕ → List Closing
closings_of house seat = slice_index_or house.closings seat []

-- the i-th connection of a worker has its seat, and i for its serial
abbrev pub setting_at : Premises → ℕ → ℕ → Setting
setting_at house seat serial = record { seat = seat; serial = serial; max_message = house.max_message }

-- Connections one after another: these bytes came, these were the replies, and these messages were judged. What is told of a shard on a connection
-- goes by the closings before it.
pub data HaveTalked (house : Premises) (seat : ℕ) : List (List ℕ) → List (List ℕ) → List Judged → Type 0 where
  none : HaveTalked house seat [] [] []
  next : {connections : List (List ℕ)} {replies : List (List ℕ)} {judged : List Judged} (bytes : List ℕ) (own : Directory) (said : List Reply)
      (more : List Judged)
      → HaveTalked house seat connections replies judged
      → IsMarkedBy (closings_of house seat) (length connections) house.directory own
      → WholeTalk (setting_at house seat (length connections)) own bytes said more
      → HaveTalked house seat (connections ++ bytes ∷ []) (replies ++ wire house.host said ∷ []) (judged ++ more)

-- what notes are to tell of copies and the verdicts on them: each is noted, in their order, and nothing else is
abbrev pub notes_tell : List Noted → List (Job × Verdict) → Type 0
notes_tell notes copies = notes ≡ map note_of copies

module _ (directory : Directory) (rooms : List Room) (seat : ℕ) where
  -- What is kept tells of each of these copies with its verdict, in their order, and of nothing else; and each lane got those for its mailboxes that
  -- weren't refused at once. What `keeps` is, who keeps it says.
  pub record AreBooksOf (copies : List (Job × Verdict)) (keeps : List (Job × Verdict) → Type 0) (heard : List (Entry Noted))
      (sent : List (List (Entry Job))) : Type 0 where
    pub noted : keeps copies
    pub lanes : (lane : ℕ) → lane < length sent → (jobs : List Job) × WerePut directory (room_at rooms lane) seat lane heard [] copies jobs
        × (slice_index_or sent lane [] ≡ map (λ job. Item seat job) jobs)

  -- the same of the copies of these messages
  abbrev pub AreBooks : List Judged → (List (Job × Verdict) → Type 0) → List (Entry Noted) → List (List (Entry Job)) → Type 0
  AreBooks judged keeps heard sent = AreBooksOf (told judged) keeps heard sent

module _ (house : Premises) (seat : ℕ) (connections replies : List (List ℕ)) where
  -- The account of a worker that went through its connections. `said` is what it has put on each lane, its end included.
  pub record Account (notes : List Noted) (heard : List (Entry Noted)) (said : List (List (Entry Job))) : Type 0 where
    pub judged : List Judged
    pub talked : HaveTalked house seat connections replies judged
    pub noted : notes ≡ map note_of (told judged)
    pub lanes : (lane : ℕ) → lane < length said → (jobs : List Job) × WerePut house.directory (room_at house.rooms lane) seat lane heard []
        (told judged) jobs × (slice_index_or said lane [] ≡ map (λ job. Item seat job) jobs ++ End seat ∷ [])

module _ (house : Premises) (seat : ℕ) where
  -- What a producer's log has of these copies, and what it has put of them on each lane, its end included.
  pub record AreAccountedFor (copies : List (Job × Verdict)) (notes : List Noted) (heard : List (Entry Noted))
      (said : List (List (Entry Job))) : Type 0 where
    pub noted : notes_tell notes copies
    pub lanes : (lane : ℕ) → lane < length said → (jobs : List Job)
        × WerePut house.directory (room_at house.rooms lane) seat lane heard [] copies jobs
        × (slice_index_or said lane [] ≡ map (λ job. Item seat job) jobs ++ End seat ∷ [])

-- each list has the producer's end behind it
abbrev pub HaveEnded : ℕ → (before after : List (List (Entry Job))) → Type 0
HaveEnded seat before after = after ≡ map (λ entries. entries ++ End seat ∷ []) before
