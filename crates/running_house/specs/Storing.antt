-- What a worker's log says, beside what it put on its lanes and what it heard.
use Rattle.std.specs.Prelude.{◌≡◌, ℕ, List, length, map, flat_map, All, AllPairs, Contains}
use Rattle.delivery_token.specs.declared.Job.{Job}
use Rattle.delivery_token.specs.declared.Verdict.{Verdict}
use Rattle.delivery_token.specs.declared.log.Noted.{Noted}
use Rattle.delivery_token.specs.Keys.{Precedes}
use Rattle.envelope.specs.Names.{Directory, shard_of}
use Rattle.lane_work.specs.Account.{IsHeard, copies_of, note_of}
use Rattle.lane_work.specs.Talk.{Judged}
use Rattle.shard_queue.specs.declared.lane.Entry.{Entry}
use Rattle.shard_queue.specs.declared.lane.Entry.TheVariants.{Item}

-- Among what this seat said on a lane stands a copy with the note's key, for its mailbox, and the note was heard.
pub record WasPut (seat : ℕ) (entries : List (Entry Job)) (heard : List (Entry Noted)) (noted : Noted) : Type 0 where
  pub copy : Job
  pub same_key : copy.key ≡ noted.key
  pub same_mailbox : copy.mailbox ≡ noted.mailbox
  pub there : Contains entries (Item seat copy)
  pub verdict : IsHeard heard noted

-- A copy on a lane is one of a message that was judged, for a mailbox of the lane's shard; a verdict on it was heard, and that stands in the log.
pub record WasSubmitted (directory : Directory) (judged : List Judged) (notes : List Noted) (heard : List (Entry Noted)) (lane : ℕ)
    (copy : Job) : Type 0 where
  pub message : Judged
  pub there : Contains judged message
  pub among : Contains (copies_of message.message) copy
  pub shard : shard_of directory copy.mailbox ≡ lane
  pub verdict : Verdict
  pub told : IsHeard heard (note_of (copy, verdict))
  pub noted : Contains notes (note_of (copy, verdict))

-- a key and a verdict for each recipient
pub record IsFull (judged : Judged) : Type 0 where
  pub mailboxes : length judged.message.mailboxes ≡ length judged.message.keys
  pub verdicts : length judged.verdicts ≡ length judged.message.keys

-- The log has one verdict for each copy of each message, in the order of the messages and of their recipients, and no others. The keys rise: so no
-- two notes are of one copy.
pub record AreVerdicts (judged : List Judged) (notes : List Noted) : Type 0 where
  pub full : All IsFull judged
  pub keys : map (λ (n : Noted). n.key) notes ≡ flat_map (λ (j : Judged). j.message.keys) judged
  pub mailboxes : map (λ (n : Noted). n.mailbox) notes ≡ flat_map (λ (j : Judged). j.message.mailboxes) judged
  pub verdicts : map (λ (n : Noted). n.verdict) notes ≡ flat_map (λ (j : Judged). j.verdicts) judged
  pub rise : AllPairs Precedes (map (λ (n : Noted). n.key) notes)
