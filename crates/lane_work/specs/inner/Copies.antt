-- What bodies and proofs say besides: the copies of messages that were judged: what is noted of them, and which of them were put on a lane.
use Rattle.std.specs.Prelude.{◌≡◌, ℕ, ◌==◌, ◌<◌, length, slice_index_or, slice_set, if◌then◌else◌, List, [], ◌∷◌, ◌++◌, map, Option, Some, None, MatchOption}
use Rattle.delivery_token.specs.declared.Job.{Job}
use Rattle.delivery_token.specs.declared.Verdict.{Verdict}
use Rattle.delivery_token.specs.declared.log.Noted.{Noted}
use Rattle.envelope.specs.Names.{Directory, shard_of}
use Rattle.shard_queue.specs.declared.lane.Entry.{Entry}
use Rattle.shard_queue.specs.declared.lane.Entry.TheVariants.{Item}
use Rattle.lane_work.specs.Account.{Room, room_at, FilledAlone, copies, note_of, IsAtOnce, IsHeard}

-- ---- while the verdicts on a message come in

-- those that are under way on this lane: they were put there, and nothing was heard of them at once
abbrev pub under_way : Directory → ℕ → List Job → List (Option Verdict) → List Job
under_way directory lane [] slots = []
under_way directory lane (copy ∷ copies) [] = []
under_way directory lane (copy ∷ copies) (None ∷ slots) =
    (if shard_of directory copy.mailbox == lane then copy ∷ under_way directory lane copies slots else under_way directory lane copies slots)
under_way directory lane (copy ∷ copies) (Some verdict ∷ slots) = under_way directory lane copies slots

-- What was known at once of these copies, as far as they are for this lane, where these entries had been put there before.
abbrev pub AreTried : Directory → Room → (seat lane : ℕ) → (before : List (Entry Job)) → List Job → List (Option Verdict) → Type 0
AreTried directory room seat lane before [] slots = Unit {0}
AreTried directory room seat lane before (copy ∷ copies) [] = Unit {0}
AreTried directory room seat lane before (copy ∷ copies) (None ∷ slots) =
    AreTried directory room seat lane (if shard_of directory copy.mailbox == lane then before ++ Item seat copy ∷ [] else before) copies slots
AreTried directory room seat lane before (copy ∷ copies) (Some verdict ∷ slots) =
    (shard_of directory copy.mailbox ≡ lane → IsAtOnce (FilledAlone room seat before) verdict) × AreTried directory room seat lane before copies slots

-- the same of each lane
abbrev pub WereTried : Directory → List Room → ℕ → List Job → List (Option Verdict) → (before : List (List (Entry Job))) → Type 0
WereTried directory rooms seat copies slots before =
    (lane : ℕ) → lane < length before → AreTried directory (room_at rooms lane) seat lane (slice_index_or before lane []) copies slots

-- Of these copies, the verdict on each that was filled in was heard.
abbrev pub WereHeard : List (Entry Noted) → List Job → (slots filled : List (Option Verdict)) → Type 0
WereHeard heard [] slots filled = Unit {0}
WereHeard heard (copy ∷ copies) [] filled = Unit {0}
WereHeard heard (copy ∷ copies) (slot ∷ slots) [] = Unit {0}
WereHeard heard (copy ∷ copies) (Some verdict ∷ slots) (now ∷ filled) = WereHeard heard copies slots filled
WereHeard heard (copy ∷ copies) (None ∷ slots) (None ∷ filled) = WereHeard heard copies slots filled
WereHeard heard (copy ∷ copies) (None ∷ slots) (Some verdict ∷ filled) = IsHeard heard (note_of (copy, verdict)) × WereHeard heard copies slots filled

-- What a worker has put on each lane grew by these copies, those for the lane's mailboxes that are under way.
abbrev pub HavePut : Directory → ℕ → List Job → List (Option Verdict) → (before after : List (List (Entry Job))) → Type 0
HavePut directory seat copies slots before after =
    (lane : ℕ) → lane < length before → slice_index_or after lane [] ≡ slice_index_or before lane []
    ++ map (λ job. Item seat job) (under_way directory lane copies slots)

-- ---- a copy alone

-- A copy was put on the lane of its mailbox's shard, and the verdict on it was heard; or it was refused at once, and nothing was put.
pub record WasJudged (directory : Directory) (rooms : List Room) (seat : ℕ) (copy : Job) (verdict : Verdict) (heard : List (Entry Noted))
    (before after : List (List (Entry Job))) : Type 0 where
  pub at_once : Option Verdict
  pub within : shard_of directory copy.mailbox < length before
  pub lanes : length after ≡ length before
  pub put : MatchOption at_once (after ≡ slice_set before (shard_of directory copy.mailbox)
      (slice_index_or before (shard_of directory copy.mailbox) [] ++ Item seat copy ∷ []))
      (λ v. (after ≡ before) × IsAtOnce (FilledAlone (room_at rooms (shard_of directory copy.mailbox)) seat
      (slice_index_or before (shard_of directory copy.mailbox) [])) v)
  pub told : MatchOption at_once (IsHeard heard (note_of (copy, verdict))) (λ v. verdict ≡ v)
