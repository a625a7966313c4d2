-- Which refusals of a copy can have come, by what a report lists of its mailbox and of its shard's lane.
use Rattle.std.specs.Prelude.{◌≡◌, ◌≢◌, ◌≤◌, ◌-◌, ◌⊎◌, ◌++◌, ◌∷◌, ℕ, List, [], All, length, slice_index_or}
use Rattle.delivery_token.specs.Keys.{Precedes}
use Rattle.delivery_token.specs.declared.CopyKey.{CopyKey}
use Rattle.delivery_token.specs.declared.Job.{Job}
use Rattle.delivery_token.specs.declared.Refusal.TheVariants as why
use Rattle.delivery_token.specs.declared.Verdict.{Verdict}
use Rattle.delivery_token.specs.declared.Verdict.TheVariants.{Stored, Refused}
use Rattle.delivery_token.specs.declared.log.Noted.{Noted}
use Rattle.envelope.specs.Names.{Directory, shard_of}
use Rattle.settings.specs.declared.config.Config.{Config}
use Rattle.shard_queue.specs.declared.lane.Entry.{Entry}
use Rattle.shard_queue.specs.declared.lane.Entry.TheVariants.{Item, End}
use Rattle.shard_queue.specs.Lane.{producer}

-- Whoever put the copy with this key didn't put the entry later: it is another producer's, or a copy with an earlier key.
abbrev pub IsNotLater : CopyKey → Entry Job → Type 0
IsNotLater key (Item producer job) = producer ≡ key.seat → Precedes job.key key
IsNotLater key (End producer) = producer ≢ key.seat

-- The entry may have waited as the copy with this key was refused: it is another producer's, or an earlier copy of the same message. A copy of an
-- earlier message of its own producer had been answered by then, and so been taken: whoever puts a message's copies puts none of the next before each
-- was answered.
abbrev pub MayWait : CopyKey → Entry Job → Type 0
MayWait key (Item producer job) = producer ≡ key.seat → Precedes job.key key × (job.key.serial ≡ key.serial) × (job.key.message ≡ key.message)
MayWait key (End producer) = producer ≢ key.seat

-- So it is of any two: the second may have been put while the first waited, where they are of different producers, or copies of one message. An end
-- comes behind all answers.
abbrev pub MayWaitTogether : (first second : Entry Job) → Type 0
MayWaitTogether (Item p one) (Item q other) = p ≡ q → (one.key.serial ≡ other.key.serial) × (one.key.message ≡ other.key.message)
MayWaitTogether (Item p one) (End q) = p ≢ q
MayWaitTogether (End p) second = p ≢ producer second

-- any two of them
abbrev pub AreTogether : List (Entry Job) → Type 0
AreTogether [] = Unit {0}
AreTogether (entry ∷ entries) = All (MayWaitTogether entry) entries × AreTogether entries

-- Of these entries so many, one behind the other, may have waited together as the copy with this key was refused that a lane of this depth had no
-- room for one more. What was put behind them is others'.
pub record WasFilled (depth : ℕ) (key : CopyKey) (entries : List (Entry Job)) : Type 0 where
  pub gone : List (Entry Job)
  pub waiting : List (Entry Job)
  pub meanwhile : List (Entry Job)
  pub split : entries ≡ gone ++ waiting ++ meanwhile
  pub own : All (MayWait key) waiting
  pub together : AreTogether waiting
  pub others : All (λ entry. producer entry ≢ key.seat) meanwhile
  pub many : depth ≤ length waiting

-- nothing is here, or first what whoever put the copy with this key put later
abbrev pub BeginsLater : CopyKey → List (Entry Job) → Type 0
BeginsLater key [] = Unit {0}
BeginsLater key (entry ∷ entries) = IsNotLater key entry → ⊥

-- So it is of the entries that were taken from a lane before whatever the copy's own producer put later.
pub record HadNoRoom (depth : ℕ) (key : CopyKey) (taken : List (Entry Job)) : Type 0 where
  pub first : List (Entry Job)
  pub later : List (Entry Job)
  pub split : taken ≡ first ++ later
  pub own : All (IsNotLater key) first
  pub next : BeginsLater key later
  pub filled : WasFilled depth key first

-- the entry is the copy with this key, for this mailbox
abbrev pub IsCopyFor : (mailbox : ℕ) → CopyKey → Entry Job → Type 0
IsCopyFor mailbox key (Item producer job) = (job.key ≡ key) × (job.mailbox ≡ mailbox)
IsCopyFor mailbox key (End producer) = ⊥

-- the copies that a mailbox accepted are among these entries, for it, in this order
abbrev pub StandAmong : (mailbox : ℕ) → (accepted : List (CopyKey × ℕ)) → List (Entry Job) → Type 0
StandAmong mailbox [] entries = Unit {0}
StandAmong mailbox (pair ∷ accepted) [] = ⊥
StandAmong mailbox (pair ∷ accepted) (entry ∷ entries) =
    (IsCopyFor mailbox pair.0 entry × StandAmong mailbox accepted entries) ⊎ StandAmong mailbox (pair ∷ accepted) entries

module _ (count mailbox : ℕ) where
  -- The copy with this key was taken from the lane, and at least so many of the first copies that its mailbox accepted were taken before it. So the
  -- mailbox had accepted as many when that copy was judged.
  pub record CameBehind (key : CopyKey) (accepted : List (CopyKey × ℕ)) (taken : List (Entry Job)) : Type 0 where
    pub before : List (Entry Job)
    pub producer : ℕ
    pub copy : Job
    pub after : List (Entry Job)
    pub split : taken ≡ before ++ Item producer copy ∷ after
    pub is : copy.key ≡ key
    pub first : List (CopyKey × ℕ)
    pub others : List (CopyKey × ℕ)
    pub parts : accepted ≡ first ++ others
    pub stood : StandAmong mailbox first before
    pub many : count ≤ length first

module _ (config : Config) (directory : Directory) (accepted : List (List (CopyKey × ℕ))) (taken : List (List (Entry Job))) where
  -- What has to be so where this was the verdict on the copy with this key for this mailbox. Nothing has to, where it was stored, which the lists
  -- say; nor where its producer had closed the shard, which its account says; nor where memory was refused, which may be at any time. `accepted`:
  -- what each mailbox accepted; `taken`: what was taken from each shard's lane
  abbrev pub Allows : CopyKey → (mailbox : ℕ) → Verdict → Type 0
  Allows key mailbox (Stored uid) = Unit {0}
  Allows key mailbox (Refused why.Full) =
      HadNoRoom config.depth key (slice_index_or taken (shard_of directory mailbox) [])
  Allows key mailbox (Refused why.MailboxFull) =
      CameBehind config.messages mailbox key (slice_index_or accepted mailbox []) (slice_index_or taken (shard_of directory mailbox) [])
  Allows key mailbox (Refused why.NoMemory) = Unit {0}
  Allows key mailbox (Refused why.UidSpent) =
      CameBehind (4294967295 - config.first_uid) mailbox key (slice_index_or accepted mailbox [])
      (slice_index_or taken (shard_of directory mailbox) [])
  Allows key mailbox (Refused why.Shut) = Unit {0}

  -- the verdict that was noted can have come
  abbrev pub MayCome : Noted → Type 0
  MayCome noted = Allows noted.key noted.mailbox noted.verdict
