-- What the producers of a server leave, and what the line tells of a worker's connections.
use Rattle.std.specs.Prelude.{◌≡◌, ℕ, ◌<◌, ◌+◌, ◌++◌, ◌∷◌, Bool, true, false, List, [], Some, length, map, slice_get, Option, None, IfSome}
use Rattle.std.specs.Mem.{manually_drop_value}
use Rattle.workers_sync.specs.Carried.{Carried, judged_of}
use Rattle.delivery_token.specs.declared.Job.{Job}
use Rattle.delivery_token.specs.declared.Verdict.{Verdict}
use Rattle.delivery_token.specs.declared.log.Noted.{Noted}
use Rattle.lmtp_machine.specs.declared.reply.Reply.{Reply}
use mathlib.Core.List.{IsPrefix}
use Rattle.lmtp_machine.specs.Conversation.{Conversation}
use Rattle.lmtp_machine.specs.Dialogue.{Phase, wire}
use Rattle.shard_queue.specs.Reply.{ReplyChannel, IsReceiver, received}
use Rattle.shard_queue.specs.declared.lane.Entry.{Entry}
use Rattle.shard_queue.specs.Permits.{said as put_by}
use Rattle.lane_work.specs.Backing.{IsBackedBy}
use Rattle.lane_work.specs.Account.{AreBooks, AreBooksOf, HaveEnded, Premises, setting_at}
use Rattle.lane_work.specs.Permits.{AreEnded}
use Rattle.lane_work.specs.Speaking.{premises_of}
use Rattle.lane_work.specs.Talk.{last_words}
use Rattle.lane_work.specs.Talk.{HasTaken, Judged}
use Rattle.house_shared.specs.declared.shared.HouseShared.{HouseShared}
use Rattle.serving_workers.specs.declared.accepting.Outfit.{Outfit}
use Rattle.serving_workers.specs.declared.accepting.Served.{Served}
use Rattle.serving_workers.specs.declared.threads.Spawned.{Spawned}
use Rattle.serving_workers.specs.declared.threads.Spawned.TheVariants.{There, Here}

-- ---- what a line tells

-- Of each connection that came, in their order, all that its peer sends; and of each that is over, all that was written to it, and whether its output
-- had failed. A line tells that of its connections, or nothing.
pub record Told : Type 0 where
  pub came : Option (List (List ℕ))
  pub said : Option (List (List ℕ × Bool))

-- one more stands behind these, where they are told
abbrev pub OneMore : {A : Type 0} → (before after : Option (List A)) → (one : Option A) → Type 0
OneMore None after one = after ≡ None
OneMore {A} (Some all) after one = (x : A) × (one ≡ Some x) × (after ≡ Some (all ++ x ∷ []))

-- a connection came, whose peer sends this
pub record Took (before after : Told) (stream : Option (List ℕ)) : Type 0 where
  pub came : OneMore before.came after.came stream
  pub said : after.said ≡ before.said

-- what was written to an output, and whether it had failed
abbrev pub with_end : Option (List ℕ) → Bool → Option (List ℕ × Bool)
with_end None failed = None
with_end (Some bytes) failed = Some (bytes, failed)

-- a connection is over, to whose output this was written
pub record Closed (before after : Told) (output : Option (List ℕ)) (failed : Bool) : Type 0 where
  pub came : after.came ≡ before.came
  pub said : OneMore before.said after.said (with_end output failed)

-- no connection came there yet
pub record IsFresh (line : Told) : Type 0 where
  pub came : IfSome line.came (λ all. all ≡ [])
  pub said : IfSome line.said (λ all. all ≡ [])

-- Where the line tells what was said, the output of its connection tells it too, and nothing was written there yet.
abbrev pub IsUnwritten : Told → (output : Option (List ℕ)) → Type 0
IsUnwritten line output = IfSome line.said (λ all. output ≡ Some [])

-- ---- what was spoken

-- what was read of a connection's peer, what was written to it, and whether its output had failed at last
pub record Spoken : Type 0 where
  pub read : List ℕ
  pub written : List ℕ
  pub failed : Bool

-- each of these was read from the front of what its peer sends
abbrev pub AreRead : List Spoken → (came : List (List ℕ)) → Type 0
AreRead [] [] = Unit {0}
AreRead [] (bytes ∷ came) = ⊥
AreRead (one ∷ spoken) [] = ⊥
AreRead (one ∷ spoken) (bytes ∷ came) = IsPrefix one.read bytes × AreRead spoken came

-- It was spoken on the connections that came in at this line, in their order: no more of them and no fewer.
pub record WereOver (line : Told) (spoken : List Spoken) : Type 0 where
  pub read : IfSome line.came (AreRead spoken)
  pub written : IfSome line.said (λ all. all ≡ map (λ s. (s.written, s.failed)) spoken)

-- ---- mail

-- What of these replies was written to a connection of which these bytes were taken: all of it, where the output took all that was written to it, and
-- perhaps behind it that the server shuts down; a beginning, where the output failed; and nothing, where memory was refused before it was greeted.
pub data AreWritten (host bytes : List ℕ) (replies : List Reply) (phase : Phase) : (written : List ℕ) → (failed : Bool) → Type 0 where
  all_written : AreWritten host bytes replies phase (wire host replies) false
  with_last_words : AreWritten host bytes replies phase (wire host (replies ++ last_words phase)) false
  cut_short : {written : List ℕ} → IsPrefix written (wire host (replies ++ last_words phase)) → AreWritten host bytes replies phase written true
  never_greeted : bytes ≡ [] → AreWritten host bytes replies phase [] false

-- So many connections of the worker with this seat, one after another, each with the next serial from 0 on: on each nothing was said, or bytes came
-- that lead, in a conversation with that seat and that serial, to messages that were judged, and its replies were written. What was spoken on each,
-- and the messages of all, in their order.
pub data HaveConversed (house : Premises) (seat : ℕ) : (connections : ℕ) → List Spoken → List Judged → Type 0 where
  none : HaveConversed house seat 0 [] []
  passed : {n : ℕ} {spoken : List Spoken} {judged : List Judged} → HaveConversed house seat n spoken judged
      → HaveConversed house seat (n + 1) (spoken ++ record { read = []; written = []; failed = false } ∷ []) judged
  next : {n : ℕ} {spoken : List Spoken} {judged : List Judged} (bytes : List ℕ) (replies : List Reply) (more : List Judged) (at : Conversation)
      (dropped written : List ℕ) (failed : Bool)
      → HaveConversed house seat n spoken judged → HasTaken (setting_at house seat n) house.directory bytes replies more at
      → AreWritten house.host bytes replies at.standing.phase written failed
      → HaveConversed house seat (n + 1) (spoken ++ record { read = bytes ++ dropped; written = written; failed = failed } ∷ []) (judged ++ more)

module _ (house : Premises) (seat : ℕ) (line : Told) (connections : ℕ) where
  -- So many connections came in at this line. What was put on each lane is what they submitted, and the verdict on each copy that was put was heard.
  pub record AreServed (heard : List (Entry Noted)) (sent : List (List (Entry Job))) : Type 0 where
    pub judged : List Judged
    pub spoken : List Spoken
    pub over : WereOver line spoken
    pub conversed : HaveConversed house seat connections spoken judged
    pub books : AreBooks house.directory house.rooms seat judged (λ told. Unit {0}) heard sent

module _ (house : Premises) (seat : ℕ) (line : Told) where
  -- Of a worker that wasn't torn: what it said on each lane is what its connections submitted, and then its end.
  pub record HasServedMail (heard : List (Entry Noted)) (words : List (List (Entry Job))) : Type 0 where
    pub connections : ℕ
    pub sent : List (List (Entry Job))
    pub served : AreServed house seat line connections heard sent
    pub ended : HaveEnded seat sent words

-- ---- clients of a client slot

-- So many clients of the client slot with this seat, one after another, each with the next serial from 0 on: of each these messages were carried, in
-- their order, or none. These are the copies of all, with the verdicts on them.
pub data HaveAppended (seat : ℕ) : (clients : ℕ) → List (Job × Verdict) → Type 0 where
  nobody : HaveAppended seat 0 []
  another : {n : ℕ} {copies : List (Job × Verdict)} (carried : List Carried) → HaveAppended seat n copies
      → HaveAppended seat (n + 1) (copies ++ map (judged_of seat n) carried)

module _ (house : Premises) (seat clients : ℕ) where
  -- What was put on each lane is what these clients appended, and the verdict on each copy that was put was heard.
  abbrev pub AreAttended : (heard : List (Entry Noted)) → (sent : List (List (Entry Job))) → Type 0
  AreAttended heard sent =
      (copies : List (Job × Verdict)) × HaveAppended seat clients copies
      × AreBooksOf house.directory house.rooms seat copies (λ told. Unit {0}) heard sent

-- Of a client slot that wasn't torn: what it said on each lane is what its clients appended, and then its end.
pub record HasServedClients (house : Premises) (seat : ℕ) (heard : List (Entry Noted)) (words : List (List (Entry Job))) : Type 0 where
  pub clients : ℕ
  pub sent : List (List (Entry Job))
  pub served : AreAttended house seat clients heard sent
  pub ended : HaveEnded seat sent words

-- ---- all of them

-- What producer n leaves: its ended permits on all lanes, and its end of its own channel. A worker's words are its connections' own, which came in at
-- its line, and those of another its clients'. The history that the house shares has what it put and heard, and nothing else of its seat, however it
-- came to its end. `told`: what a line tells
pub record IsServed {B L : Type 0} (told : L → Told) (shared : HouseShared B) (n : ℕ) (s : Served B L) : Type 0 where
  pub ended : AreEnded shared.intake.lanes.items n s.ended.items
  pub receiver : (channel : ReplyChannel Noted) → slice_get shared.delivery.channels.items n ≡ Some channel → IsReceiver channel s.receiver
  pub mail : s.mail ≡ true → s.torn ≡ false
      → (line : L) × (s.line ≡ Some line) × HasServedMail (premises_of shared.intake) n (told line) (received s.receiver) (map put_by s.ended.items)
  pub clients : s.mail ≡ false → s.torn ≡ false → HasServedClients (premises_of shared.intake) n (received s.receiver) (map put_by s.ended.items)
  pub backed : IsBackedBy n s.dispatch (received s.receiver) (map put_by s.ended.items)

-- it has room to read into, and nobody came in at its line yet
pub record IsOutfit {L : Type 0} (told : L → Told) (o : Outfit L) : Type 0 where
  pub room : 0 < length o.buffers.input.items
  pub fresh : IsFresh (told o.line)

-- its thread will leave that, or it is there
abbrev pub IsSpawned : {B L I O : Type 0} → (L → Told) → HouseShared B → ℕ → Spawned B L I O → Type 0
IsSpawned told shared n (There h) = (h.promise.shared.now ≡ shared) × (h.promise.number ≡ n)
IsSpawned told shared n (Here s) = IsServed told shared n (manually_drop_value s)

-- it is a worker, or was one
abbrev pub serves_mail : {B L I O : Type 0} → Spawned B L I O → Bool
serves_mail (There h) = h.promise.mail
serves_mail (Here s) = (manually_drop_value s).mail

abbrev pub has_thread : {B L I O : Type 0} → Spawned B L I O → Bool
has_thread (There h) = true
has_thread (Here s) = false
